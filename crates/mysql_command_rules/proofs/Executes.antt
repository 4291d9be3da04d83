-- Executions: the head, and what each place holds.
use Rattle.std.proofs.Common.{◌≡◌, ◌⊎◌, inl, inr, ℕ, suc, ◌+◌, ◌/◌, ◌<◌, ◌^◌, Bool, true, false, List, [], ◌∷◌, ◌++◌}
use Rattle.std.proofs.Common.{length, Option, Some, None, Result, Ok, refl, sym, ap, ◌∙◌, arith, subst, append_assoc}
use Rattle.std.specs.Prelude.{◌==◌, nat_le, if◌then◌else◌}
use Rattle.std.specs.List.{concat}
use Rattle.std.specs.Option.{ok_or, option_or}
use Rattle.std.proofs.lemmas.Bool.{eqb-true, eqb-false, eq-eqb, ne_eqb, leb-true, cases_Bool}
use Rattle.byteorder.specs.Endian.{little_bytes}
use Rattle.mysql_wire.specs.Bytes.{AreBytes}
use Rattle.mysql_buf.specs.NumberLaws.{little-reads_back}
use Rattle.mysql_wire.specs.Reading as buffer
use Rattle.mysql_wire.specs.Wire.{◌>>=◌}
use Rattle.mysql_field_lists.specs.NullBitmap.{is_null_at}
use Rattle.mysql_values.specs.Content.{Content}
use Rattle.mysql_values.specs.Content.TheVariants as content
use Rattle.mysql_receive.specs.declared.fault.StreamFault.{StreamFault}
use Rattle.mysql_receive.specs.declared.fault.StreamFault.TheVariants.{NotPrepared, WrongId, BadExecute, NoTypes}
use Rattle.mysql_receive.specs.declared.param_type.ParamType.{ParamType}
use Rattle.mysql_receive.specs.Fields.{◌>>◌, must, bytes_or, number_or}
use Rattle.mysql_receive.specs.Query.{Statement, place_count}
use Rattle.mysql_receive.specs.Layout.{Types, ExecuteHead, id_at, types_at, binding_at, execute_head}
use Rattle.mysql_receive.specs.InForce.{StatementState}
use Rattle.mysql_receive.specs.Reading.{Set, types_in_force, parameter_at, set_at, execute_at}
use Rattle.mysql_command_rules.specs.Manual.{SideBySide, IsParameter, AreBound, anew, kept, AreParameters, without}
use Rattle.mysql_command_rules.specs.Manual.{with_places, type_bytes, IsPrepared}
use Rattle.mysql_command_rules.proofs.Binds.{bind_ok, bind_from, must_ok, some_is, if_then, number_behind}
use Rattle.mysql_command_rules.proofs.Numbers.{Taken, taken_as, byte_is, number_is, behind_front, bytes_behind}
use Rattle.mysql_command_rules.proofs.Numbers.{bytes_given, bytes_taken, byte_given, byte_taken, little_taken}
use Rattle.mysql_command_rules.proofs.Values.{content_taken, content_given}
use Rattle.mysql_command_rules.proofs.Beside.{Said, next, beside_none, beside_more, beside_first, beside_others}
use Rattle.mysql_command_rules.proofs.Beside.{beside_same}
use Rattle.mysql_command_rules.proofs.Types.{types_taken, types_given}

-- ---- the statement's id

-- it stands in four bytes
pub record HasId (c : Statement) (bytes rest : List ℕ) : Type 0 where
  pub fits : c.id < 2 ^ 32
  pub joined : bytes ≡ little_bytes 4 c.id ++ rest

pub id_taken : (c : Statement) (bytes rest : List ℕ) → AreBytes bytes → id_at c bytes ≡ Ok rest → HasId c bytes rest
id_taken c bytes rest are e =
    let a = number_behind WrongId WrongId 4 (λ n. n == c.id) bytes (λ id. Ok id.1) rest e in
    let taken = little_taken 4 bytes a.0 are a.1 in
    let id : a.0.0 ≡ c.id = eqb-true a.0.0 c.id a.2 in
    let left : a.0.1 ≡ rest = cc in
    record {
      fits = subst (λ (n : ℕ). n < 2 ^ 32) id taken.0;
      joined = taken.1 ∙ ap (λ (n : ℕ). little_bytes 4 n ++ a.0.1) id ∙
          ap (λ (l : List ℕ). little_bytes 4 c.id ++ l) left;
    }

pub id_given : (c : Statement) (rest : List ℕ) → c.id < 2 ^ 32 → id_at c (little_bytes 4 c.id ++ rest) ≡ Ok rest
id_given c rest lt = rw (little-reads_back 4 c.id rest lt, eq-eqb c.id c.id refl) refl

-- ---- what a place holds

parameter_taken : (waiting : Option (List ℕ)) (null : Bool) (t : ParamType) (bytes : List ℕ)
    (p : Content × List ℕ) → AreBytes bytes → parameter_at waiting null t bytes ≡ Ok p →
    Taken (IsParameter waiting null t) bytes p
parameter_taken (Some data_bytes) null t bytes p are e =
    let same : (content.Bytes data_bytes, bytes) ≡ p = cc in
    taken_as (IsParameter (Some data_bytes) null t) bytes (
      content.Bytes data_bytes,
      bytes,
    ) p same (record { part = []; joined = refl; is = (refl, refl) })
parameter_taken None true t bytes p are e =
    let same : (content.Null, bytes) ≡ p = cc in
    taken_as (IsParameter None true t) bytes (
      content.Null,
      bytes,
    ) p same (record { part = []; joined = refl; is = (refl, refl) })
parameter_taken None false t bytes p are e =
    let taken = content_taken BadExecute t bytes p are e in
    record { part = taken.part; joined = taken.joined; is = taken.is }

parameter_given : (waiting : Option (List ℕ)) (null : Bool) (t : ParamType) (cell : List ℕ)
    (held : Content) (rest : List ℕ) → IsParameter waiting null t cell held →
    parameter_at waiting null t (cell ++ rest) ≡ Ok (held, rest)
parameter_given (Some data_bytes) null t cell held rest is =
    ap (λ (l : List ℕ). parameter_at (Some data_bytes) null t (l ++ rest)) is.0 ∙
    ap (λ (x : Content). Ok (x, rest)) (sym is.1)
parameter_given None true t cell held rest is =
    ap (λ (l : List ℕ). parameter_at None true t (l ++ rest)) is.0 ∙
    ap (λ (x : Content). Ok (x, rest)) (sym is.1)
parameter_given None false t cell held rest is = content_given BadExecute t cell held rest is

module _ (pieces : ℕ → Option (List ℕ)) (nulls : List ℕ) where
  -- what is said of the places from this one on
  abbrev pub from_place : ℕ → Said
  from_place place = λ k. IsParameter (pieces (place + k)) (is_null_at 0 nulls (place + k))

  said_at : (m n : ℕ) (t : ParamType) (part : List ℕ) (held : Content) → m ≡ n →
      IsParameter (pieces m) (is_null_at 0 nulls m) t part held →
      IsParameter (pieces n) (is_null_at 0 nulls n) t part held
  said_at m n t part held same is = subst (λ (k : ℕ). IsParameter (pieces k) (is_null_at 0 nulls k) t part held) same is

  pub places_taken : (place : ℕ) (types : Types) (bytes : List ℕ) (set : Set) → AreBytes bytes →
      set_at pieces nulls place types bytes ≡ Ok set → (cells : List (List ℕ)) ×
      (bytes ≡ concat cells) × SideBySide (from_place place) types cells set
  unfolding set_at
  places_taken place [] [] set are e =
      let none : [] ≡ set = cc in
      ([], refl, subst (λ (x : Set). SideBySide (from_place place) [] [] x) none (beside_none (from_place place)))
  places_taken place [] (b ∷ bytes) set are e = absurd cc
  places_taken place (t ∷ types) bytes set are e =
      let a = bind_ok (parameter_at (pieces place) (is_null_at 0 nulls place) t bytes) _ set e in
      let b = bind_ok (set_at pieces nulls (place + 1) types a.0.1) _ set a.2 in
      let first = parameter_taken (pieces place) (is_null_at 0 nulls place) t bytes a.0 are a.1 in
      let others = places_taken (place + 1) types a.0.1 b.0
      (bytes_behind first.part a.0.1 bytes first.joined are) b.1 in
      let all : a.0.0 ∷ b.0 ≡ set = cc in (
        first.part ∷ others.0,
        first.joined ∙ ap (λ (l : List ℕ). first.part ++ l) others.1,
        subst (λ (x : Set). SideBySide (from_place place) (t ∷ types) (first.part ∷ others.0) x) all
            (beside_more (from_place place) t types first.part others.0 a.0.0 b.0
            (said_at place (place + 0) t first.part a.0.0 (omega arith) first.is)
            (beside_same (from_place (place + 1)) (next (from_place place)) types others.0 b.0
            (λ k u part held is. said_at (place + 1 + k) (place + suc k) u part held (omega arith) is) others.2)),
      )

  pub places_given : (place : ℕ) (types : Types) (cells : List (List ℕ)) (set : Set) →
      SideBySide (from_place place) types cells set →
      set_at pieces nulls place types (concat cells) ≡ Ok set
  unfolding set_at
  places_given place [] [] [] all = refl
  places_given place [] [] (x ∷ set) all = absurd (omega (arith, all.content_count))
  places_given place [] (cell ∷ cells) set all = absurd (omega (arith, all.part_count))
  places_given place (t ∷ types) [] set all = absurd (omega (arith, all.part_count))
  places_given place (t ∷ types) (cell ∷ cells) [] all = absurd (omega (arith, all.content_count))
  places_given place (t ∷ types) (cell ∷ cells) (held ∷ set) all =
      let first = said_at (place + 0) place t cell held (omega arith)
      (beside_first (from_place place) t types cell cells held set all) in
      let others = beside_same (next (from_place place)) (from_place (place + 1)) types cells set
      (λ k u part x is. said_at (place + suc k) (place + 1 + k) u part x (omega arith) is)
      (beside_others (from_place place) t types cell cells held set all) in
      bind_from (parameter_at (pieces place) (is_null_at 0 nulls place) t (cell ++ concat cells)) _
      (held, concat cells) (Ok (held ∷ set))
      (parameter_given (pieces place) (is_null_at 0 nulls place) t cell held (concat cells)
      first)
      (bind_from (set_at pieces nulls (place + 1) types (concat cells)) _ set (Ok (held ∷ set))
      (places_given (place + 1) types cells set others) refl)

-- ---- the head

-- behind the iteration count
abbrev binding_of : Statement → List ℕ → Result ExecuteHead StreamFault
binding_of c rest = if place_count c.query == 0 then Ok
    (record { nulls = []; own = None; cells = rest }) else binding_at (place_count c.query) rest

-- behind the cursor
abbrev count_behind : Statement → List ℕ → Result ExecuteHead StreamFault
count_behind c rest = number_or BadExecute 4 rest >>= λ count. must BadExecute (count.0 == 1) >> binding_of c count.1

record HasFields (c : Statement) (body : List ℕ) (head : ExecuteHead) : Type 0 where
  fits : c.id < 2 ^ 32
  rest : List ℕ
  joined : body ≡ little_bytes 4 c.id ++ (0 ∷ (little_bytes 4 1 ++ rest))
  binding : binding_of c rest ≡ Ok head
  bytes : AreBytes rest

fields_taken : (c : Statement) (body : List ℕ) (head : ExecuteHead) → AreBytes body →
    execute_head c body ≡ Ok head → HasFields c body head
unfolding execute_head
fields_taken c body head are e =
    let a = bind_ok (id_at c body) _ head e in
    let b = number_behind BadExecute BadExecute 1 (λ n. n == 0) a.0 (λ cursor. count_behind c cursor.1) head a.2 in
    let g = number_behind BadExecute BadExecute 4 (λ n. n == 1) b.0.1 (λ count. binding_of c count.1) head b.3 in
    let id = id_taken c body a.0 are a.1 in
    let front : body ≡ (little_bytes 4 c.id ++ 0 ∷ []) ++ b.0.1 =
    behind_front (little_bytes 4 c.id) a.0 (0 ∷ b.0.1) body id.joined
    (byte_is a.0 b.0 0 b.1 (eqb-true b.0.0 0 b.2)) in
    let behind : AreBytes b.0.1 = bytes_behind (little_bytes 4 c.id ++ 0 ∷ []) b.0.1 body front are in
    let one = number_is 4 b.0.1 g.0 1 behind g.1 (eqb-true g.0.0 1 g.2) in
    record {
      fits = id.fits;
      rest = g.0.1;
      joined = behind_front (little_bytes 4 c.id ++ 0 ∷ []) b.0.1 (little_bytes 4 1 ++ g.0.1) body front one;
      binding = g.3;
      bytes = bytes_behind (little_bytes 4 1) g.0.1 b.0.1 one behind;
    }

fields_given : (c : Statement) (rest : List ℕ) → c.id < 2 ^ 32 →
    execute_head c (little_bytes 4 c.id ++ (0 ∷ (little_bytes 4 1 ++ rest))) ≡ binding_of c rest
unfolding execute_head
fields_given c rest lt =
    bind_from (id_at c (little_bytes 4 c.id ++ (0 ∷ (little_bytes 4 1 ++ rest)))) _ (0 ∷
    (little_bytes 4 1 ++ rest)) (binding_of c rest)
    (id_given c (0 ∷ (little_bytes 4 1 ++ rest)) lt)
    (rw (byte_given 0 (little_bytes 4 1 ++ rest), little-reads_back 4 1 rest (omega arith)) refl)

abbrev found : ExecuteHead → Result ExecuteHead StreamFault
found head = Ok head

abbrev ok_types : Types → Result Types StreamFault
ok_types types = Ok types

-- the bitmap, the flag and the types
record HasBinding (c : Statement) (rest : List ℕ) (head : ExecuteHead) : Type 0 where
  bound : List ℕ
  bitmap : length head.nulls ≡ (place_count c.query + 7) / 8
  joined : rest ≡ head.nulls ++ (bound ++ head.cells)
  is : (s : StatementState) (types : Types) → option_or head.own s.types ≡ Some types → AreBound c s bound types

-- behind the flag
abbrev types_behind : Statement → List ℕ → ℕ × List ℕ → Result ExecuteHead StreamFault
types_behind c nulls bound =
    if bound.0 == 0 then found (record { nulls = nulls; own = None; cells = bound.1 })
    else (types_at BadExecute (place_count c.query) bound.1 >>= λ types. found
    (record { nulls = nulls; own = Some types.0; cells = types.1 }))

binding_taken : (c : Statement) (rest : List ℕ) (head : ExecuteHead) →
    binding_at (place_count c.query) rest ≡ Ok head → HasBinding c rest head
unfolding binding_at
binding_taken c rest head e =
    let count : ℕ = place_count c.query in
    let a = bind_ok (bytes_or BadExecute ((count + 7) / 8) rest) _ head e in
    let b = number_behind BadExecute BadExecute 1 (λ n. nat_le n 1) a.0.1
    (λ bound. types_behind c a.0.0 bound) head a.2 in
    let nulls = bytes_taken ((count + 7) / 8) rest a.0
    (some_is (buffer.bytes_at ((count + 7) / 8) rest) BadExecute a.0 a.1) in
    let flag = byte_taken a.0.1 b.0 b.1 in
    let low = leb-true b.0.0 1 b.2 in
    if_then (b.0.0 == 0) (Ok (record { nulls = a.0.0; own = None; cells = b.0.1 }))
    (types_at BadExecute count b.0.1 >>= λ types. Ok
    (record { nulls = a.0.0; own = Some types.0; cells = types.1 })) (Ok head)
    (λ t h. old c rest head a.0.0 b.0.1 nulls.0 (nulls.1 ∙
    ap (λ (l : List ℕ). a.0.0 ++ l) (flag ∙ ap (λ (n : ℕ). n ∷ b.0.1) (eqb-true b.0.0 0 t))) h)
    (λ f h.
    let not_zero = eqb-false b.0.0 0 f in
    let one : b.0.0 ≡ 1 = omega (arith, low, not_zero) in
    new c rest head a.0.0 b.0.1 nulls.0 (nulls.1 ∙
    ap (λ (l : List ℕ). a.0.0 ++ l) (flag ∙ ap (λ (n : ℕ). n ∷ b.0.1) one)) h)
    b.3
  where
    old : (c : Statement) (rest : List ℕ) (head : ExecuteHead) (nulls cells : List ℕ) →
        length nulls ≡ (place_count c.query + 7) / 8 → rest ≡ nulls ++ (0 ∷ cells) →
        found (record { nulls = nulls; own = None; cells = cells }) ≡ found head → HasBinding c rest head
    old c rest head nulls cells len joined e =
        let made : ExecuteHead = record { nulls = nulls; own = None; cells = cells } in
        let same : made ≡ head = cc in
        subst (λ (h : ExecuteHead). HasBinding c rest h) same
        (record {
          bound = 0 ∷ [];
          bitmap = len;
          joined = joined;
          is =
              λ s types is. kept types is;
        })

    new : (c : Statement) (rest : List ℕ) (head : ExecuteHead) (nulls cells : List ℕ) →
        length nulls ≡ (place_count c.query + 7) / 8 → rest ≡ nulls ++ (1 ∷ cells) →
        (types_at BadExecute (place_count c.query) cells >>= λ types. Ok
        (record { nulls = nulls; own = Some types.0; cells = types.1 })) ≡ Ok head →
        HasBinding c rest head
    new c rest head nulls cells len joined e =
        let a = bind_ok (types_at BadExecute (place_count c.query) cells) _ head e in
        let taken = types_taken BadExecute (place_count c.query) cells a.0 a.1 in
        let made : ExecuteHead = record { nulls = nulls; own = Some a.0.0; cells = a.0.1 } in
        let same : made ≡ head = cc in
        subst (λ (h : ExecuteHead). HasBinding c rest h) same (record {
          bound = 1 ∷ type_bytes a.0.0;
          bitmap = len;
          joined = joined ∙ ap (λ (l : List ℕ). nulls ++ (1 ∷ l)) (taken.joined ∙
              ap (λ (l : List ℕ). l ++ a.0.1) taken.is.spelled);
          is = λ s types is. let one : a.0.0 ≡ types = cc in
              subst (λ (ts : Types). AreBound c s (1 ∷ type_bytes a.0.0) ts) one
              (anew a.0.0 taken.is.are);
        })

-- ---- the parameters

-- the types that count, where there are places
pub counted_types : (c : Statement) (s : StatementState) (own : Option Types) (types : Types) →
    (place_count c.query == 0) ≡ false → types_in_force c s own ≡ Ok types → option_or own s.types ≡
    Some types
counted_types c s own types some e =
    some_is (option_or own s.types) NoTypes types
    (ap (λ (b : Bool). if b then Ok [] else ok_or (option_or own s.types) NoTypes) (sym some) ∙
    e)

-- the parameters, with whichever types in force behind them
abbrev SomeParameters : Statement → StatementState → List ℕ → Set → Type 0
SomeParameters c s rest set = (types : Option Types) × AreParameters c s rest set types

parameters_taken : (c : Statement) (s : StatementState) (rest : List ℕ) (head : ExecuteHead)
    (types : Types) (set : Set) → AreBytes rest →
    binding_of c rest ≡ Ok head → types_in_force c s head.own ≡ Ok types →
    set_at s.long_data head.nulls 0 types head.cells ≡ Ok set → SomeParameters c s rest set
unfolding set_at
parameters_taken c s rest head types set are is_head are_types is_set = by (cases_Bool (place_count c.query == 0))
  where
    none : (place_count c.query == 0) ≡ true → (left : List ℕ) → left ≡ rest → types ≡ [] →
        head.cells ≡ left → SomeParameters c s rest set
    none no_place [] same empty cells =
        let e : set_at s.long_data head.nulls 0 [] [] ≡ Ok set =
        ap (λ (l : List ℕ). set_at s.long_data head.nulls 0 [] l) (sym cells) ∙
        ap (λ (ts : Types). set_at s.long_data head.nulls 0 ts head.cells) (sym empty) ∙
        is_set in
        let nothing : [] ≡ set = cc in
        subst (λ (x : Set). SomeParameters c s rest x) nothing
        (subst (λ (l : List ℕ). SomeParameters c s l []) same (
          s.types,
          without (eqb-true (place_count c.query) 0 no_place),
        ))
    none no_place (b ∷ left) same empty cells =
        let e : set_at s.long_data head.nulls 0 [] (b ∷ left) ≡ Ok set =
        ap (λ (l : List ℕ). set_at s.long_data head.nulls 0 [] l) (sym cells) ∙
        ap (λ (ts : Types). set_at s.long_data head.nulls 0 ts head.cells) (sym empty) ∙
        is_set in
        absurd cc

    some : (place_count c.query == 0) ≡ false → HasBinding c rest head → SomeParameters c s rest set
    some there h =
        let back : AreBytes head.cells =
        bytes_behind (head.nulls ++ h.bound) head.cells rest (h.joined ∙
        sym (append_assoc head.nulls h.bound head.cells)) are in
        let places = places_taken s.long_data head.nulls 0 types head.cells set back is_set in
        let not_zero = eqb-false (place_count c.query) 0 there in
        subst (λ (l : List ℕ). SomeParameters c s l set)
        (sym (h.joined ∙ ap (λ (l : List ℕ). head.nulls ++ (h.bound ++ l)) places.1)) (
          Some types,
          with_places head.nulls h.bound places.0 (omega (arith, not_zero)) h.bitmap
              (h.is s types (counted_types c s head.own types there are_types))
              (beside_same (from_place s.long_data head.nulls 0)
              (λ place. IsParameter (s.long_data place) (is_null_at 0 head.nulls place)) types
              places.0 set
              (λ place t part held is. said_at s.long_data head.nulls (0 + place) place t part held
              (omega arith) is) places.2),
        )

    by : (((place_count c.query == 0) ≡ true) ⊎ ((place_count c.query == 0) ≡ false)) → SomeParameters c s rest set
    by (inl no_place) =
        let made : ExecuteHead = record { nulls = []; own = None; cells = rest } in
        let e : found made ≡ found head =
        ap (λ (b : Bool). if b then found made else binding_at (place_count c.query) rest)
        (sym no_place) ∙ is_head in
        let same : made ≡ head = cc in
        let empty : ok_types [] ≡ ok_types types =
        ap (λ (b : Bool). if b then Ok [] else ok_or (option_or head.own s.types) NoTypes)
        (sym no_place) ∙ are_types in
        let nothing : [] ≡ types = cc in
        none no_place rest refl (sym nothing) (ap (λ (h : ExecuteHead). h.cells) (sym same))
    by (inr there) = some there
        (binding_taken c rest head
        (ap (λ (b : Bool). if b then found (record { nulls = []; own = None; cells = rest }) else
        binding_at (place_count c.query) rest) (sym there) ∙ is_head))

-- what an execute's payload is behind its first byte
pub record HasParameters (c : Statement) (s : StatementState) (body : List ℕ) (set : Set) : Type 0 where
  pub prepared : IsPrepared c s
  pub parameters : List ℕ
  pub types : Option Types
  pub joined : body ≡ little_bytes 4 c.id ++ (0 ∷ (little_bytes 4 1 ++ parameters))
  pub are : AreParameters c s parameters set types

pub execute_taken : (c : Statement) (s : StatementState) (body : List ℕ) (set : Set) →
    AreBytes body → execute_at c s body ≡ Ok set → HasParameters c s body set
unfolding execute_at
execute_taken c s body set are e =
    let a = bind_ok (must NotPrepared s.prepared) _ set e in
    let head = bind_ok (execute_head c body) _ set a.2 in
    let types = bind_ok (types_in_force c s head.0.own) _ set head.2 in
    let fields = fields_taken c body head.0 are head.1 in
    let parameters = parameters_taken c s fields.rest head.0 types.0 set fields.bytes fields.binding types.1 types.2 in
    record {
      prepared = record { prepared = must_ok NotPrepared s.prepared a.0 a.1; id = fields.fits };
      parameters = fields.rest;
      types = parameters.0;
      joined = fields.joined;
      are = parameters.1;
    }

-- ---- and back

-- the head that is read where these types count
record GivesHead (c : Statement) (s : StatementState) (rest bitmap cells : List ℕ) (types : Types) : Type 0 where
  own : Option Types
  binding : binding_at (place_count c.query) rest ≡ Ok (record { nulls = bitmap; own = own; cells = cells })
  types_count : option_or own s.types ≡ Some types

bound_given : (c : Statement) (s : StatementState) (bitmap bound cells : List ℕ) (types : Types) →
    length bitmap ≡ (place_count c.query + 7) / 8 → AreBound c s bound types →
    GivesHead c s (bitmap ++ (bound ++ cells)) bitmap cells types
unfolding binding_at
bound_given c s bitmap bound cells types len (anew own are) = record {
  own = Some own;
  binding = rw (
    bytes_given ((place_count c.query + 7) / 8) bitmap (1 ∷ (type_bytes own ++ cells))
        len,
    byte_given 1 (type_bytes own ++ cells),
    types_given BadExecute (place_count c.query) own cells are,
  ) refl;
  types_count = refl;
}
bound_given c s bitmap bound cells types len (kept old is) = record {
  own = None;
  binding = rw (bytes_given ((place_count c.query + 7) / 8) bitmap (0 ∷ cells) len, byte_given 0 cells) refl;
  types_count = is;
}

-- what is read of an execute that is laid out: its set, and its head by which types are in force
pub record ExecuteReads (c : Statement) (s : StatementState) (body : List ℕ) (set : Set)
    (types : Option Types) : Type 0 where
  pub reads : execute_at c s body ≡ Ok set
  pub own : Option Types
  pub head : (nulls : List ℕ) × (cells : List ℕ) ×
      (execute_head c body ≡ Ok (record { nulls = nulls; own = own; cells = cells }))
  pub types_count : option_or own s.types ≡ types

pub execute_given : (c : Statement) (s : StatementState) (parameters : List ℕ) (set : Set)
    (types : Option Types) → IsPrepared c s → AreParameters c s parameters set types →
    ExecuteReads c s (little_bytes 4 c.id ++ (0 ∷ (little_bytes 4 1 ++ parameters))) set types
unfolding execute_at set_at
execute_given c s parameters set types is (without no_place) =
    let is_zero : (place_count c.query == 0) ≡ true = eq-eqb (place_count c.query) 0 no_place in
    let prepared = is.prepared in
    record {
      reads = rw (prepared, fields_given c [] is.id, is_zero) refl;
      own = None;
      head = (
        [],
        [],
        fields_given c [] is.id ∙
            ap (λ (b : Bool). if b then found (record { nulls = []; own = None; cells = [] }) else
            binding_at (place_count c.query) []) is_zero,
      );
      types_count = refl;
    }
execute_given c s parameters set behind is (with_places bitmap bound cells {types = types} there len are all) =
    let no_zero : (place_count c.query == 0) ≡ false = ne_eqb (place_count c.query) 0 (λ e. omega (arith, there, e)) in
    let head = bound_given c s bitmap bound (concat cells) types len are in
    let places = places_given s.long_data bitmap 0 types cells set
    (beside_same (λ place. IsParameter (s.long_data place) (is_null_at 0 bitmap place))
    (from_place s.long_data bitmap 0) types cells set
    (λ place t part held h. said_at s.long_data bitmap place (0 + place) t part held (omega arith) h) all) in
    let prepared = is.prepared in
    let rest = bitmap ++ (bound ++ concat cells) in
    record {
      reads = rw (prepared, fields_given c rest is.id, no_zero, head.binding, head.types_count) places;
      own = head.own;
      head = (
        bitmap,
        concat cells,
        fields_given c rest is.id ∙
            ap (λ (b : Bool). if b then found (record { nulls = []; own = None; cells = rest }) else
            binding_at (place_count c.query) rest) no_zero ∙ head.binding,
      );
      types_count = head.types_count;
    }
