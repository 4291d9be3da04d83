-- What is in force behind a command is the same on both sides where it was before it.
use Rattle.std.proofs.Common.{◌≡◌, ℕ, zero, suc, ◌+◌, ◌<◌, ◌≤◌, Bool, true, false, List, [], ◌∷◌, ◌++◌, length, drop}
use Rattle.std.proofs.Common.{Option, Some, None, Ok, refl, sym, ap, subst, ◌∙◌, arith, inl, inr}
use Rattle.std.specs.Prelude.{map, ◌==◌, ◌||◌, if◌then◌else◌, is_some, not, unwrap_or}
use Rattle.std.specs.BTreeMap.{insert_entry}
use Rattle.std.specs.Cmp.{unsigned_tied}
use Rattle.std.specs.List.{list_any, range_with_len}
use Rattle.std.specs.Option.{ok_or, option_or}
use Rattle.std.specs.Ordering.{is_eq, match_ordering, nat_cmp}
use Rattle.std.specs.declared.cmp.Ordering.{Ordering}
use Rattle.std.specs.declared.cmp.Ordering.TheVariants.{Equal, Greater, Less}
use Rattle.std.proofs.lemmas.Bool.{cases_lt}
use Rattle.std.proofs.lemmas.Bool.Decides.{nat_tests}
use Rattle.std.proofs.lemmas.Cmp.{nat_eq_equiv}
use Rattle.std.proofs.lemmas.List.{append-nil, drop_all, length-map}
use Rattle.mysql_executions.specs.After.{in_place_of, more_data}
use Rattle.mysql_executions.specs.InForce.{InForce, data_for, types_that_count}
use Rattle.mysql_executions.specs.InForce as executions
use Rattle.mysql_executions.specs.Types.{unnamed}
use Rattle.mysql_executions.specs.declared.types.BoundType.{BoundType}
use Rattle.mysql_executions.specs.declared.types.ParameterType.{ParameterType}
use Rattle.mysql_receive.specs.InForce.{StatementState}
use Rattle.mysql_receive.specs.InForce as received
use Rattle.mysql_receive.specs.Layout.{Types}
use Rattle.mysql_receive.specs.Query.{Statement, place_count}
use Rattle.mysql_receive.specs.Reading.{types_in_force}
use Rattle.mysql_receive.specs.declared.fault.StreamFault.{StreamFault}
use Rattle.mysql_receive.specs.declared.fault.StreamFault.TheVariants.{NoTypes}
use Rattle.mysql_connection_recoding.specs.Agreement.{Agree, SameTypes, numbered}
use Rattle.mysql_connection_recoding.proofs.Binds.{found_is, ok_is}
use Rattle.mysql_connection_recoding.proofs.Options.{must_so}
use Rattle.mysql_connection_recoding.proofs.Values.{SameData, SameOwn}

-- ---- types

few_types : (kept : Option Types) (types : List ParameterType) (n : ℕ) → SameTypes kept types n → length types ≤ n
few_types None types n same = omega (arith, ap length same)
few_types (Some sent) types n same = omega (arith, same.1)

-- the types of a command, or those before it
pub types_behind : (own : Option Types) (carried : Option (List BoundType)) (kept : Option Types)
    (types : List ParameterType) (n : ℕ) → SameOwn own carried n → SameTypes kept types n
    → SameTypes (option_or own kept) (in_place_of (unnamed (unwrap_or carried [])) types) n
types_behind None None kept types n same before = before
types_behind (Some sent) (Some found) kept types n same before =
    let own = unnamed found in
    let len : length own ≡ n = length-map found _ ∙ same.1 in
    let none : drop (length own) types ≡ [] =
    drop_all (length own) types (omega (arith, few_types kept types n before, len)) in
    let all : own ++ drop (length own) types ≡ own = ap (λ (l : List ParameterType). own ++ l) none ∙ append-nil own in
    (ap (λ (l : List ParameterType). map numbered l) all ∙ same.0, ap length all ∙ len)
types_behind None (Some found) kept types n same before = absurd same
types_behind (Some sent) None kept types n same before = absurd same

-- the types that count
abbrev Counting : InForce → Option (List BoundType) → Types → Type 0
Counting s carried types = (ts : List ParameterType) × (types_that_count s carried ≡ Some ts) ×
    (map numbered ts ≡ types)

empty_map : (ts : List ParameterType) → length ts ≤ 0 → map numbered ts ≡ []
empty_map [] none = refl
empty_map (t ∷ ts) none = absurd (omega arith)

no_types_count : (s : InForce) (carried : Option (List BoundType)) (own : Option Types) → s.count ≡
    0 → length s.types ≤ s.count → SameOwn own carried s.count → Counting s carried []
no_types_count s None None none few same = (
  s.types,
  must_so (length s.types == s.count) _ _ (grind (arith, nat_tests)) refl,
  empty_map s.types (omega arith),
)
no_types_count s (Some found) (Some sent) none few same = (
  unnamed found,
  refl,
  empty_map (unnamed found)
      (omega (arith, length-map found (λ t. t.parameter_type), same.1)),
)
no_types_count s None (Some sent) none few same = absurd same
no_types_count s (Some found) None none few same = absurd same

some_types_count : (s : InForce) (carried : Option (List BoundType)) (own kept : Option Types)
    (types : Types) → SameTypes kept s.types s.count → SameOwn own carried s.count →
    option_or own kept ≡ Some types → Counting s carried types
some_types_count s None None None types before same e = absurd cc
some_types_count s None None (Some sent) types before same e = (
  s.types,
  must_so (length s.types == s.count) _ _ (let e = before.1 in grind (arith, nat_tests))
      refl,
  before.0 ∙ cc,
)
some_types_count s (Some found) (Some sent) kept types before same e = (unnamed found, refl, same.0 ∙ cc)
some_types_count s None (Some sent) kept types before same e = absurd same
some_types_count s (Some found) None kept types before same e = absurd same

module _ (statement : Statement) (state : StatementState) (s : InForce) (agree : Agree statement state s) where
  count_by : (carried : Option (List BoundType)) (own : Option Types) (types : Types)
      (none : Bool) → (place_count statement.query == 0) ≡ none → SameOwn own carried s.count
      → (if none then Ok [] else ok_or (option_or own state.types) NoTypes) ≡ Ok types → Counting s carried types
  count_by carried own types true is same e =
      let zero_places : place_count statement.query ≡ 0 = grind (arith, nat_tests) in
      subst (Counting s carried) (ok_is {F = StreamFault} [] types e)
      (no_types_count s carried own (agree.count ∙
      zero_places) (few_types state.types s.types s.count agree.types) same)
  count_by carried own types false is same e =
      some_types_count s carried own state.types types agree.types same
      (found_is (option_or own state.types) NoTypes types e)

  pub types_count : (carried : Option (List BoundType)) (own : Option Types) (types : Types) →
      SameOwn own carried s.count → types_in_force statement state own ≡ Ok types →
      Counting s carried types
  types_count carried own types same e = count_by carried own types (place_count statement.query == 0) refl same e

-- ---- long data

turned : (a b : ℕ) → (a == b) ≡ (b == a)
turned a b = nat_eq_equiv.symm a b

twice : {X : Type 0} (b : Bool) (x y z : X) → (if b then x else z) ≡ (if b then x else (if b then y else z))
twice true x y z = refl
twice false x y z = refl

-- of two places that differ one at most is this one
one_of : {X : Type 0} (here there : Bool) (place other key : ℕ) (x y z : X) → (place == other) ≡
    here → (other == key) ≡ there → false ≡ (place == key)
    → (if there then y else (if here then x else z)) ≡ (if here then x else (if there then y else z))
one_of true true place other key x y z one two differ =
    let same : place ≡ other = grind (arith, nat_tests) in
    let too : other ≡ key = grind (arith, nat_tests) in
    let both : (place == key) ≡ true = ap (λ p. p == key) same ∙ two in
    absurd (let no : false ≡ true = differ ∙ both in cc)
one_of true false place other key x y z one two differ = refl
one_of false true place other key x y z one two differ = refl
one_of false false place other key x y z one two differ = refl

found_by : (o : Ordering) (place other : ℕ) (bytes : List ℕ) (e : ℕ ×
    List ℕ) (es later : List (ℕ × List ℕ)) → is_eq o ≡ (place == e.0) → data_for later other ≡
    (if place == other then Some bytes else data_for es other)
    → data_for (match_ordering o ((place, bytes) ∷ e ∷ es) ((e.0, bytes) ∷ es) (e ∷ later)) other ≡
    (if place == other then Some bytes else data_for (e ∷ es) other)
found_by Less place other bytes e es later tie behind =
    ap (λ (b : Bool). if b then Some bytes else data_for (e ∷ es) other) (turned other place)
found_by Equal place other bytes e es later tie behind =
    let same : place ≡ e.0 = grind (arith, nat_tests) in
    let test : (other == e.0) ≡ (place == other) = ap (λ p. other == p) (sym same) ∙ turned other place in
    ap (λ (b : Bool). if b then Some bytes else data_for es other) test ∙
    twice (place == other) (Some bytes) (Some e.1) (data_for es other)
    ∙ ap (λ (b : Bool). if place == other then Some bytes else (if b then Some e.1 else data_for es other)) (sym test)
found_by Greater place other bytes e es later tie behind =
    ap (λ (found : Option (List ℕ)). if other == e.0 then Some e.1 else found) behind
    ∙ one_of (place == other) (other == e.0) place other e.0 (Some bytes) (Some e.1) (data_for es other) refl refl tie

-- what is found behind an insertion: at its place what was inserted
pub found_inserted : (waiting : List (ℕ × List ℕ)) (place other : ℕ) (bytes : List ℕ) →
    data_for (insert_entry nat_cmp waiting place bytes) other ≡
    (if place == other then Some bytes else data_for waiting other)
found_inserted [] place other bytes = ap (λ (b : Bool). if b then Some bytes else None) (turned other place)
found_inserted (e ∷ es) place other bytes =
    found_by (nat_cmp place e.0) place other bytes e es (insert_entry nat_cmp es place bytes)
    (unsigned_tied place e.0) (found_inserted es place other bytes)

more_by : (waiting : List (ℕ × List ℕ)) (place : ℕ) (bytes : List ℕ) (other : ℕ) (here : Bool) → (place == other) ≡ here
    → data_for (more_data waiting place bytes) other ≡
    (if here then Some (unwrap_or (data_for waiting other) [] ++ bytes) else data_for waiting
    other)
more_by waiting place bytes other true is =
    let same : place ≡ other = grind (arith, nat_tests) in
    found_inserted waiting place other (unwrap_or (data_for waiting place) [] ++ bytes) ∙
    ap (λ (b : Bool). if b then Some (unwrap_or (data_for waiting place) [] ++
    bytes) else data_for waiting other) is
    ∙ ap (λ p. Some (unwrap_or (data_for waiting p) [] ++ bytes)) same
more_by waiting place bytes other false is =
    found_inserted waiting place other (unwrap_or (data_for waiting place) [] ++ bytes) ∙
    ap (λ (b : Bool). if b then Some (unwrap_or (data_for waiting place) [] ++
    bytes) else data_for waiting other) is

-- data for a place goes behind what waits for it, and no other place changes
pub data_more : (waiting : List (ℕ × List ℕ)) (kept : ℕ → Option (List ℕ)) (place : ℕ)
    (bytes : List ℕ) → SameData waiting kept →
    SameData (more_data waiting place bytes) (received.more_data kept place bytes)
data_more waiting kept place bytes same other =
    more_by waiting place bytes other (place == other) refl ∙
    ap (λ found. if place == other then Some (unwrap_or found [] ++ bytes) else found)
    (same other)

-- none waits for a place that the statement hasn't
abbrev pub NonePast : ℕ → List (ℕ × List ℕ) → Type 0
NonePast n waiting = (place : ℕ) → n ≤ place → data_for waiting place ≡ None

pub more_within : (waiting : List (ℕ × List ℕ)) (place : ℕ) (bytes : List ℕ) (n : ℕ) → place < n →
    NonePast n waiting → NonePast n (more_data waiting place bytes)
more_within waiting place bytes n lt within other past =
    more_by waiting place bytes other false (grind (arith, nat_tests)) ∙ within other past

-- no data waits
abbrev pub NoneWaits : List (ℕ × List ℕ) → Type 0
NoneWaits waiting = (place : ℕ) → data_for waiting place ≡ None

none_waits : (waiting : List (ℕ × List ℕ)) → NoneWaits waiting → not (length waiting == 0) ≡ false
none_waits [] none = refl
none_waits (e ∷ waiting) none =
    let own : (e.0 == e.0) ≡ true = grind (arith, nat_tests) in
    let found : Some e.1 ≡ None =
    sym (ap (λ (b : Bool). if b then Some e.1 else data_for waiting e.0) own) ∙ none e.0 in
    absurd cc

or_false : (a b : Bool) → (a || b) ≡ false → (a ≡ false) × (b ≡ false)
or_false true b e = absurd cc
or_false false b e = (refl, e)

is_none : {X : Type 0} (found : Option X) → is_some found ≡ false → found ≡ None
is_none None e = refl
is_none (Some x) e = absurd cc

none_from : (kept : ℕ → Option (List ℕ)) (first n place : ℕ) →
    list_any (λ p. is_some (kept p)) (range_with_len first n) ≡ false → first ≤ place →
    place < first + n → kept place ≡ None
none_from kept first zero place none le lt = absurd (omega arith)
none_from kept first (suc n) place none le lt =
    let both = or_false (is_some (kept first)) (list_any (λ p. is_some (kept p)) (range_with_len (first + 1) n)) none in
    elim (cases_lt first place) [
      | inl later ↦ none_from kept (first + 1) n place both.1 (omega arith) (omega arith)
      | inr here ↦ let same : first ≡ place = omega arith in
          subst (λ p. kept p ≡ None) same (is_none (kept first) both.0)
    ]

module _ (statement : Statement) (state : StatementState) (s : InForce) (agree : Agree statement state s) where
  -- where `receive` knows of no data that waits, none waits
  pub none_waiting : received.is_waiting statement state ≡ false → NoneWaits s.long_data
  none_waiting none place = elim (cases_lt place (place_count statement.query)) [
    | inl within ↦ agree.long_data place ∙
        none_from state.long_data 0 (place_count statement.query) place none (omega arith)
        (omega arith)
    | inr past ↦ agree.places place (omega (arith, agree.count))
  ]

  pub not_waiting : received.is_waiting statement state ≡ false → executions.is_waiting s ≡ false
  not_waiting none = none_waits s.long_data (none_waiting none)

  -- so behind it none does
  pub nothing_kept : received.is_waiting statement state ≡ false → SameData [] state.long_data
  nothing_kept none place = sym (sym (agree.long_data place) ∙ none_waiting none place)
