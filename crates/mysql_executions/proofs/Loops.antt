-- Loops that read one thing after another.
use Rattle.std.proofs.Common.{◌≡◌, ℕ, suc, true, false, ◌-◌, ◌+◌, ◌≤◌, ◌<◌, Bool, List, [], ◌∷◌, ◌++◌, length, map}
use Rattle.std.proofs.Common.{get_or, drop, Option, Some, None, refl, sym, ap, ◌∙◌, append_assoc, append-nil, add-one}
use Rattle.std.proofs.Common.{drop-cons, arith}
use Rattle.std.specs.Prelude.{is_some}
use Rattle.std.specs.Global.{Vec}
use Rattle.std.specs.Option.{option_map}
use Rattle.std.proofs.lemmas.List.{drop-map, length-map}
use Rattle.mysql_executions.specs.declared.not_read.NotRead.{NotRead}
use Rattle.mysql_executions.specs.declared.not_read.NotRead.TheVariants.{Other, Memory}
use Rattle.mysql_executions.specs.declared.types.BoundType.{BoundType}
use Rattle.mysql_executions.specs.declared.bulk.BulkValue.{BulkValue}
use Rattle.mysql_executions.specs.declared.types.ParameterType.{ParameterType}
use Rattle.mysql_executions.specs.Bulks.{row_at, rows_at}
use Rattle.mysql_executions.specs.Fields.{◌>>=◌, each_at}
use Rattle.mysql_executions.specs.Types.{TypesRead, type_at, types_read, unnamed}
use Rattle.mysql_executions.specs.Views.{types_by, types_of}

-- what a refusal says of a reading
abbrev pub Fails : {Y : Type 0} → NotRead → Option Y → Type 0
Fails Other found = found ≡ None
Fails Memory found = Unit {0}

-- what is refused in one spelling is refused in the other
pub fails_as : {Y : Type 0} (r : NotRead) (found same : Option Y) → same ≡ found → Fails r found → Fails r same
fails_as Other found same e h = e ∙ h
fails_as Memory found same e h = tt

-- ---- types

-- the element that stands first of what is left
pub at_place : {X : Type 0} (xs : List X) (place : ℕ) (x : X) → place < length xs → x ≡
    get_or xs place x → drop place xs ≡ x ∷ drop (place + 1) xs
at_place {X = X} xs place x lt is =
    let here : drop place xs ≡ get_or xs place x ∷ drop (place + 1) xs = rw add-one (drop-cons xs place x lt) in
    here ∙ ap (λ (y : X). y ∷ drop (place + 1) xs) (sym is)

unnamed_at : (xs : List BoundType) (place : ℕ) (t : BoundType) → place < length (unnamed xs) → t ≡
    get_or xs place t → drop place (unnamed xs) ≡ t.parameter_type ∷ drop (place + 1) (unnamed xs)
unnamed_at xs place t lt is =
    drop-map (λ t. t.parameter_type) place xs ∙
    ap (map (λ t. t.parameter_type))
    (at_place xs place t (omega (arith, lt, length-map xs (λ t. t.parameter_type))) is)
    ∙ ap (λ (later : List ParameterType). t.parameter_type ∷
    later) (sym (drop-map (λ t. t.parameter_type) (place + 1) xs))

-- the command's own type at a place
pub own_type_at : (own : Option (Vec BoundType)) (types : Vec BoundType)
    (in_force : List ParameterType) (place : ℕ) (t : BoundType) → own ≡ Some types →
    place < length (types_by (types_of own) in_force) → t ≡ get_or types.items place t
    → drop place (types_by (types_of own) in_force) ≡ t.parameter_type ∷
    drop (place + 1) (types_by (types_of own) in_force)
own_type_at None types in_force place t e lt is = absurd cc
own_type_at (Some v) types in_force place t e lt is =
    let same : v ≡ types = cc in
    unnamed_at v.items place t lt (is ∙ ap (λ (v : Vec BoundType). get_or v.items place t) (sym same))

-- types before others
abbrev pub behind : List BoundType → TypesRead → TypesRead
behind before types = record { found = before ++ types.found; rest = types.rest }

module _ (named : Bool) (before : List BoundType) (count i : ℕ) (bytes : List ℕ) (total : TypesRead) where
  pub types_go_on : (t : BoundType) (after : List ℕ) → i < count → type_at named bytes ≡ Some (t, after)
      → behind before (types_read named (count - i) bytes) ≡ total →
      behind (before ++ t ∷ []) (types_read named (count - (i + 1)) after) ≡ total
  unfolding types_read
  types_go_on t after lt h so_far =
      let k : count - i ≡ suc (count - (i + 1)) = omega arith in
      let one : behind before (types_read named (count - i) bytes) ≡
      behind (before ++ t ∷ []) (types_read named (count - (i + 1)) after) =
      rw (k, h) (λ j. record {
        found =
            sym (append_assoc before (t ∷ []) (types_read named (count - (i + 1)) after).found) j;
        rest = (types_read named (count - (i + 1)) after).rest;
      }) in
      sym one ∙ so_far

  pub types_end : i < count → type_at named bytes ≡ None →
      behind before (types_read named (count - i) bytes) ≡ total →
      record { found = before; rest = None } ≡ total
  unfolding types_read
  types_end lt h so_far =
      let k : count - i ≡ suc (count - (i + 1)) = omega arith in
      let one : behind before (types_read named (count - i) bytes) ≡
      record { found = before; rest = None } =
      rw (k, h) (λ j. record { found = append-nil before j; rest = None }) in
      sym one ∙ so_far

  pub types_done : count ≤ i → behind before (types_read named (count - i) bytes) ≡ total →
      record { found = before; rest = Some bytes } ≡ total
  unfolding types_read
  types_done le so_far =
      let k : count - i ≡ 0 = omega arith in
      let one : behind before (types_read named (count - i) bytes) ≡
      record { found = before; rest = Some bytes } =
      rw k (λ j. record { found = append-nil before j; rest = Some bytes }) in
      sym one ∙ so_far

-- ---- something for each element of a list

-- what was read before, and what is still read
abbrev pub with_front : {A : Type 0} → List A → Option (List A × List ℕ) → Option (List A × List ℕ)
with_front before read = read >>= λ x. Some (before ++ x.0, x.1)

regroup : {A : Type 0} (before : List A) (n : A) (read : Option (List A × List ℕ)) →
    with_front before (read >>= λ x. Some (n ∷ x.0, x.1)) ≡ with_front (before ++ n ∷ []) read
regroup {A = A} before n (Some x) = ap (λ (ns : List A). Some (ns, x.1)) (simp append_assoc)
regroup before n None = refl

module _ {X Y : Type 0} (read_at : ℕ → X → List ℕ → Option (Y × List ℕ)) (before : List Y)
    (place : ℕ) (left : List X) (bytes : List ℕ) (total : Option (List Y × List ℕ)) where
  pub each_goes_on : (x : X) (next : List X) (y : Y) (after : List ℕ) → left ≡ x ∷ next →
      read_at place x bytes ≡ Some (y, after)
      → with_front before (each_at read_at place left bytes) ≡ total →
      with_front (before ++ y ∷ []) (each_at read_at (place + 1) next after) ≡ total
  unfolding each_at
  each_goes_on x next y after e h so_far =
      let one : with_front before (each_at read_at place left bytes) ≡
      with_front (before ++ y ∷ []) (each_at read_at (place + 1) next after) =
      rw (e, h) (regroup before y (each_at read_at (place + 1) next after)) in
      sym one ∙ so_far

  pub each_fails : (r : NotRead) (x : X) (next : List X) → left ≡ x ∷ next → Fails r (read_at place x bytes)
      → with_front before (each_at read_at place left bytes) ≡ total → Fails r total
  unfolding each_at
  each_fails Memory x next e h so_far = tt
  each_fails Other x next e h so_far =
      let one : with_front before (each_at read_at place left bytes) ≡ None = rw (e, h) refl in
      sym so_far ∙ one

  pub each_done : left ≡ [] → with_front before (each_at read_at place left bytes) ≡ total → total ≡
      Some (before, bytes)
  unfolding each_at
  each_done none so_far =
      let one : with_front before (each_at read_at place left bytes) ≡ Some (before, bytes) =
      rw none (ap (λ (ns : List Y). Some (ns, bytes)) (append-nil before)) in
      sym so_far ∙ one

-- ---- whether each can be read

abbrev before_others : {A : Type 0} → A → List A × List ℕ → Option (List A × List ℕ)
before_others n x = Some (n ∷ x.0, x.1)

some_too : {A : Type 0} (n : A) (read : Option (List A × List ℕ)) → is_some (read >>= before_others n) ≡ is_some read
some_too n (Some x) = refl
some_too n None = refl

module _ {X Y : Type 0} (read_at : ℕ → X → List ℕ → Option (Y × List ℕ)) (place : ℕ) (left : List X)
    (bytes : List ℕ) where
  passes_by : (next : List X) (after : List ℕ) (read : Option (Y × List ℕ)) → Some after ≡ option_map (λ r. r.1) read
      → is_some (read >>= λ first. each_at read_at (place + 1) next first.1 >>= before_others
      first.0) ≡ is_some (each_at read_at (place + 1) next after)
  passes_by next after None h = absurd cc
  passes_by next after (Some r) h =
      let same : after ≡ r.1 = cc in
      rw same (some_too r.0 (each_at read_at (place + 1) next r.1))

  stops_by : (next : List X) (read : Option (Y × List ℕ)) → None ≡ option_map (λ r. r.1) read
      → is_some (read >>= λ first. each_at read_at (place + 1) next first.1 >>= before_others first.0) ≡ false
  stops_by next None h = refl
  stops_by next (Some r) h = absurd cc

  pub each_passes : (x : X) (next : List X) (after : List ℕ) → left ≡ x ∷ next → Some after ≡
      option_map (λ r. r.1) (read_at place x bytes) → is_some (each_at read_at place left bytes) ≡
      is_some (each_at read_at (place + 1) next after)
  unfolding each_at
  each_passes x next after e h = rw e (passes_by next after (read_at place x bytes) h)

  pub each_stops : (x : X) (next : List X) → left ≡ x ∷ next → None ≡
      option_map (λ r. r.1) (read_at place x bytes) → is_some (each_at read_at place left bytes) ≡
      false
  unfolding each_at
  each_stops x next e h = rw e (stops_by next (read_at place x bytes) h)

  pub each_passed : left ≡ [] → is_some (each_at read_at place left bytes) ≡ true
  unfolding each_at
  each_passed e = rw e refl

-- ---- rows up to the first that can't be read

-- rows before others
abbrev pub rows_behind : List (List BulkValue) → List (List BulkValue) × List ℕ → List (List BulkValue) × List ℕ
rows_behind before rows = (before ++ rows.0, rows.1)

module _ (types : List ParameterType) (before : List (List BulkValue)) (count i : ℕ)
    (bytes : List ℕ) (total : List (List BulkValue) × List ℕ) where
  pub rows_go_on : (row : List BulkValue) (after : List ℕ) → i < count → row_at types bytes ≡ Some (row, after)
      → rows_behind before (rows_at (count - i) types bytes) ≡ total →
      rows_behind (before ++ row ∷ []) (rows_at (count - (i + 1)) types after) ≡ total
  unfolding rows_at
  rows_go_on row after lt h so_far =
      let k : count - i ≡ suc (count - (i + 1)) = omega arith in
      let one : rows_behind before (rows_at (count - i) types bytes) ≡
      rows_behind (before ++ row ∷ []) (rows_at (count - (i + 1)) types after) =
      rw (k, h) (λ j. (
        sym (append_assoc before (row ∷
            []) (rows_at (count - (i + 1)) types after).0) j,
        (rows_at (count - (i + 1)) types after).1,
      )) in
      sym one ∙ so_far

  pub rows_end : i < count → row_at types bytes ≡ None →
      rows_behind before (rows_at (count - i) types bytes) ≡ total → (before, bytes) ≡ total
  unfolding rows_at
  rows_end lt h so_far =
      let k : count - i ≡ suc (count - (i + 1)) = omega arith in
      let one : rows_behind before (rows_at (count - i) types bytes) ≡ (before, bytes) =
      rw (k, h) (λ j. (append-nil before j, bytes)) in
      sym one ∙ so_far

  pub rows_done : count ≤ i → rows_behind before (rows_at (count - i) types bytes) ≡ total → (before, bytes) ≡ total
  unfolding rows_at
  rows_done le so_far =
      let k : count - i ≡ 0 = omega arith in
      let one : rows_behind before (rows_at (count - i) types bytes) ≡ (before, bytes) =
      rw k (λ j. (append-nil before j, bytes)) in
      sym one ∙ so_far

pub nothing_left : {X : Type 0} (xs : List X) → length xs ≡ 0 → xs ≡ []
nothing_left [] e = refl
nothing_left (x ∷ xs) e = absurd (omega (arith, e))
