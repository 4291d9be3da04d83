-- Types, values and rows that `receive` reads are those that executions have.
use Rattle.std.proofs.Common.{◌≡◌, ℕ, zero, suc, ◌+◌, Bool, true, false, List, [], ◌∷◌, length, Option, Some, None}
use Rattle.std.proofs.Common.{Result, Ok, Err, refl, sym, ap, subst, ◌∙◌, arith}
use Rattle.std.specs.Prelude.{map, not, ◌==◌, ◌||◌, if◌then◌else◌, unwrap_or}
use Rattle.std.specs.Option.{ok_or, option_map}
use Rattle.std.specs.Result.{result_ok}
use Rattle.std.proofs.lemmas.Bool.Decides.{nat_tests}
use Rattle.mysql_const.specs.ColumnTypes.{column_type_named, column_type_number}
use Rattle.mysql_const.specs.Tables.{IsTable}
use Rattle.mysql_const.specs.declared.column_type.ColumnType.{ColumnType}
use Rattle.mysql_buf.specs.Reading.{little_at}
use Rattle.mysql_executions.specs.Executions.{parameter_at, typed_value_at}
use Rattle.mysql_executions.specs.Fields.{each_at}
use Rattle.mysql_executions.specs.InForce.{data_for}
use Rattle.mysql_executions.specs.Types.{TypesRead, own_types_at, sign_named, type_at, types_read, unnamed, with_type}
use Rattle.mysql_executions.specs.declared.types.BoundType.{BoundType}
use Rattle.mysql_executions.specs.declared.types.ParameterType.{ParameterType}
use Rattle.mysql_receive.specs.Fields.{◌>>◌, must, number_or}
use Rattle.mysql_receive.specs.Layout.{Types, is_type, type_at as received_type_at, types_at as received_types_at}
use Rattle.mysql_receive.specs.Layout.{unsigned_flag}
use Rattle.mysql_receive.specs.Reading.{Set, content_at, or_cell_fault, parameter_at as received_parameter_at, set_at}
use Rattle.mysql_receive.specs.declared.fault.StreamFault.{StreamFault}
use Rattle.mysql_receive.specs.declared.fault.StreamFault.TheVariants.{BadType, BadExecute, Float}
use Rattle.mysql_receive.specs.declared.param_type.ParamType.{ParamType}
use Rattle.mysql_values.specs.Cells.{cell_at, is_float}
use Rattle.mysql_values.specs.Content.{Content}
use Rattle.mysql_values.specs.Content.TheVariants as content
use Rattle.mysql_values.specs.Value.{Value}
use Rattle.mysql_values.specs.Value.TheVariants.{Bytes, NULL}
use Rattle.mysql_values.specs.Values.{content_of}
use Rattle.mysql_field_lists.specs.NullBitmap.{is_null_at}
use Rattle.mysql_wire.specs.Wire.{◌>>=◌}
use Rattle.mysql_wire.specs.WireError.{WireError}
use Rattle.mysql_connection_recoding.specs.Agreement.{meant, numbered}
use Rattle.mysql_connection_recoding.proofs.Binds.{bind_ok, found_is, must_then, ok_is, some_of}
use Rattle.mysql_connection_recoding.proofs.Options.{some_then}

-- ---- types

-- the byte beside a type
sign_by : (zero unsigned : Bool) → (zero || unsigned) ≡ true → (zero ≡ true → unsigned ≡ false) →
    (if zero then Some false else if unsigned then Some true else None) ≡ Some unsigned
sign_by true true e only = absurd (let h = only refl in cc)
sign_by true false e only = refl
sign_by false true e only = refl
sign_by false false e only = absurd cc

sign_is : (flags : ℕ) → (flags == 0 || flags == unsigned_flag) ≡ true → sign_named flags ≡ Some (flags == unsigned_flag)
sign_is flags e = sign_by (flags == 0) (flags == 0x80) e (λ is. grind (arith, nat_tests))

-- a type that was read is one of these, the same
abbrev TypeIs : List ℕ → ParamType × List ℕ → Type 0
TypeIs bytes p = (t : BoundType) × (type_at false bytes ≡ Some (t, p.1)) × (numbered t.parameter_type ≡ p.0)

-- so are types
abbrev pub TypesAre : ℕ → List ℕ → Types × List ℕ → Type 0
TypesAre n bytes p = (found : List BoundType) ×
    (types_read false n bytes ≡ record { found = found; rest = Some p.1 }) ×
    (map numbered (unnamed found) ≡ p.0) × (length found ≡ n)

abbrev bound_as : ColumnType → Bool → BoundType
bound_as column unsigned = record { parameter_type = record { column_type = column; unsigned = unsigned }; name = [] }

module _ (named : IsTable column_type_number column_type_named) where
  type_found : (bytes : List ℕ) (number : ℕ) (rest : List ℕ) (column : ColumnType) (flags : ℕ)
      (left : List ℕ) → little_at 1 bytes ≡ Some (number, rest) → column_type_named number ≡
      Some column → little_at 1 rest ≡ Some (flags, left)
      → (flags == 0 || flags == unsigned_flag) ≡ true →
      TypeIs bytes (record { number = number; unsigned = flags == unsigned_flag }, left)
  unfolding type_at
  type_found bytes number rest column flags left here is behind sign = (
    bound_as column (flags == unsigned_flag),
    some_then _ _ (number, rest) _ here
        (some_then _ _ column _ is
        (some_then _ _ (flags, left) _ behind
        (some_then _ _ (flags == unsigned_flag) _ (sign_is flags sign) refl))),
    ap (λ n. record { number = n; unsigned = flags == unsigned_flag }) (sym (named.1 number column is)),
  )

  type_is : (short : StreamFault) (bytes : List ℕ) (p : ParamType × List ℕ) →
      received_type_at short bytes ≡ Ok p → TypeIs bytes p
  type_is short bytes p e =
      let behind = λ (t : ℕ × List ℕ) (flags : ℕ × List ℕ). must BadType (flags.0 == 0 ||
      flags.0 == unsigned_flag) >> Ok
      (record { number = t.0; unsigned = flags.0 == unsigned_flag }, flags.1) in
      let a = bind_ok (number_or short 1 bytes)
      (λ t. must BadType (is_type t.0) >> (number_or short 1 t.1 >>= behind t)) p e in
      let named_so = must_then BadType (is_type a.0.0) (number_or short 1 a.0.1 >>= behind a.0) p a.2 in
      let b = bind_ok (number_or short 1 a.0.1) (behind a.0) p named_so.1 in
      let sign = must_then BadType (b.0.0 == 0 || b.0.0 == unsigned_flag)
      (Ok (record { number = a.0.0; unsigned = b.0.0 == unsigned_flag }, b.0.1)) p b.2 in
      let column = some_of (column_type_named a.0.0) named_so.0 in
      subst (TypeIs bytes) (ok_is {F =
      StreamFault} (
        record { number = a.0.0; unsigned = b.0.0 == unsigned_flag },
        b.0.1,
      ) p sign.1)
      (type_found bytes a.0.0 a.0.1 column.0 b.0.0 b.0.1
      (found_is (little_at 1 bytes) short a.0 a.1) column.1
      (found_is (little_at 1 a.0.1) short b.0 b.1) sign.0)

  -- a type before others
  types_found : (n : ℕ) (bytes : List ℕ) (first : ParamType × List ℕ) (others : Types × List ℕ) →
      TypeIs bytes first → TypesAre n first.1 others →
      TypesAre (suc n) bytes (first.0 ∷ others.0, others.1)
  unfolding types_read
  types_found n bytes first others t ts = (
    t.0 ∷ ts.0,
    ap (λ (r : Option (BoundType × List ℕ)). unwrap_or
        (option_map (λ x. with_type x.0 (types_read false n x.1)) r)
        (record { found = []; rest = None })) t.1 ∙ ap (with_type t.0) ts.1,
    ap (λ x. x ∷ map numbered (unnamed ts.0)) t.2 ∙ ap (λ (xs : Types). first.0 ∷ xs) ts.2,
    ap suc ts.3,
  )

  -- so many types, one after another
  pub types_are : (short : StreamFault) (n : ℕ) (bytes : List ℕ) (p : Types × List ℕ) →
      received_types_at short n bytes ≡ Ok p → TypesAre n bytes p
  unfolding received_types_at types_read
  types_are short zero bytes p e =
      subst (TypesAre zero bytes) (ok_is {F = StreamFault} ([], bytes) p e) ([], refl, refl, refl)
  types_are short (suc n) bytes p e =
      let a = bind_ok (received_type_at short bytes)
      (λ first. received_types_at short n first.1 >>= λ others. Ok (
        first.0 ∷ others.0,
        others.1,
      )) p e in
      let b = bind_ok (received_types_at short n a.0.1) (λ others. Ok (a.0.0 ∷ others.0, others.1)) p a.2 in
      subst (TypesAre (suc n) bytes) (ok_is {F = StreamFault} (a.0.0 ∷ b.0.0, b.0.1) p b.2)
      (types_found n bytes a.0 b.0 (type_is short bytes a.0 a.1) (types_are short n a.0.1 b.0 b.1))

-- ---- types where a command carries them

-- the same types are carried, or none
abbrev pub SameOwn : Option Types → Option (List BoundType) → ℕ → Type 0
SameOwn None None n = Unit
SameOwn (Some types) (Some own) n = (map numbered (unnamed own) ≡ types) × (length own ≡ n)
SameOwn types own n = ⊥

-- the types that a command carries are found as these, and these bytes are left
pub record OwnAre (bound : Bool) (n : ℕ) (bytes : List ℕ) (types : Option Types) (left : List ℕ) : Type 0 where
  pub own : Option (List BoundType)
  pub found : own_types_at bound false n bytes ≡ Some (own, left)
  pub same : SameOwn types own n
  pub carried : (if bound then (types_read false n bytes).found else []) ≡ unwrap_or own []

pub own_without : (n : ℕ) (bytes : List ℕ) → OwnAre false n bytes None bytes
own_without n bytes = record { own = None; found = refl; same = tt; carried = refl }

pub own_with : (named : IsTable column_type_number column_type_named) (short : StreamFault) (n : ℕ)
    (bytes : List ℕ) (p : Types × List ℕ) → received_types_at short n bytes ≡ Ok p →
    OwnAre true n bytes (Some p.0) p.1
own_with named short n bytes p e =
    let found = types_are named short n bytes p e in
    record {
      own = Some found.0;
      found = rw found.1 refl;
      same = (found.2, found.3);
      carried = ap (λ (r : TypesRead). r.found) found.1;
    }

-- ---- values

cell_is : {X : Type 0} (short : StreamFault) (r : Result X WireError) (x : X) → or_cell_fault short r ≡ Ok x → r ≡ Ok x
cell_is short (Ok y) x e = cc
cell_is short (Err d) x e = absurd cc

-- a content that was read is that of a value
abbrev pub ContentIs : (found : Option (Value × List ℕ)) → Content × List ℕ → Type 0
ContentIs found p = (v : Value) × (found ≡ Some (v, p.1)) × (content_of v ≡ Some p.0)

pub content_is : (short : StreamFault) (t : ParameterType) (bytes : List ℕ) (p : Content × List ℕ) →
    content_at short (numbered t) bytes ≡ Ok p → ContentIs (typed_value_at t bytes) p
unfolding content_at
content_is short t bytes p e =
    let number = column_type_number t.column_type in
    let read = or_cell_fault short (cell_at number t.unsigned bytes) in
    let held = must_then Float (not (is_float number))
    (read >>= λ v. ok_or (content_of v.0) Float >>= λ meant. Ok (meant, v.1)) p e in
    let a = bind_ok read (λ v. ok_or (content_of v.0) Float >>= λ meant. Ok (meant, v.1)) p held.1 in
    let b = bind_ok (ok_or (content_of a.0.0) Float) (λ meant. Ok (meant, a.0.1)) p a.2 in
    subst (ContentIs (typed_value_at t bytes)) (ok_is {F = StreamFault} (b.0, a.0.1) p b.2) (
      a.0.0,
      ap result_ok (cell_is short (cell_at number t.unsigned bytes) a.0 a.1),
      found_is (content_of a.0.0) Float b.0 b.1,
    )

parameter_is : (sent : Option (List ℕ)) (null : Bool) (t : ParameterType) (bytes : List ℕ)
    (p : Content × List ℕ) → received_parameter_at sent null (numbered t) bytes ≡ Ok p →
    ContentIs (parameter_at sent null t bytes) p
parameter_is (Some sent) null t bytes p e =
    subst (ContentIs (Some (Bytes sent, bytes)))
    (ok_is {F = StreamFault} (content.Bytes sent, bytes) p e) (Bytes sent, refl, refl)
parameter_is None true t bytes p e =
    subst (ContentIs (Some (NULL, bytes))) (ok_is {F = StreamFault} (content.Null, bytes) p e)
    (NULL, refl, refl)
parameter_is None false t bytes p e = content_is BadExecute t bytes p e

-- what waits for each place is the same on both sides
abbrev pub SameData : List (ℕ × List ℕ) → (ℕ → Option (List ℕ)) → Type 0
SameData kept waiting = (place : ℕ) → data_for kept place ≡ waiting place

module _ (kept : List (ℕ × List ℕ)) (waiting : ℕ →
    Option (List ℕ)) (same_data : SameData kept waiting) (nulls : List ℕ) where
  abbrev parameter : ℕ → ParameterType → List ℕ → Option (Value × List ℕ)
  parameter at t b = parameter_at (data_for kept at) (is_null_at 0 nulls at) t b

  -- a set that was read to the end of the bytes is that of values
  abbrev pub SetIs : ℕ → List ParameterType → List ℕ → Set → Type 0
  SetIs place types bytes set = (vs : List Value) ×
      (each_at parameter place types bytes ≡ Some (vs, [])) × (meant vs ≡ map Some set)

  set_found : (place : ℕ) (t : ParameterType) (types : List ParameterType) (bytes : List ℕ)
      (first : Content × List ℕ) (others : Set) →
      ContentIs (parameter_at (waiting place) (is_null_at 0 nulls place) t bytes) first
      → SetIs (place + 1) types first.1 others → SetIs place (t ∷ types) bytes (first.0 ∷ others)
  unfolding each_at
  set_found place t types bytes first others v vs = (
    v.0 ∷ vs.0,
    some_then _ _ (v.0, first.1) _
        (ap (λ sent. parameter_at sent (is_null_at 0 nulls place) t bytes) (same_data place) ∙
        v.1) (some_then _ _ (vs.0, []) _ vs.1 refl),
    ap (λ c. c ∷ meant vs.0) v.2 ∙ ap (λ cs. Some first.0 ∷ cs) vs.2,
  )

  pub set_is : (place : ℕ) (types : List ParameterType) (bytes : List ℕ) (set : Set) →
      set_at waiting nulls place (map numbered types) bytes ≡ Ok set → SetIs place types bytes set
  unfolding set_at each_at
  set_is place [] [] set e = subst (SetIs place [] []) (ok_is {F = StreamFault} [] set e) ([], refl, refl)
  set_is place [] (b ∷ bytes) set e = absurd cc
  set_is place (t ∷ types) bytes set e =
      let a = bind_ok (received_parameter_at (waiting place) (is_null_at 0 nulls place) (numbered t)
      bytes) (λ first. set_at waiting nulls (place + 1) (map numbered types) first.1 >>=
      λ others. Ok (first.0 ∷ others)) set e in
      let b = bind_ok (set_at waiting nulls (place + 1) (map numbered types) a.0.1)
      (λ others. Ok (a.0.0 ∷ others)) set a.2 in
      subst (SetIs place (t ∷ types) bytes) (ok_is {F = StreamFault} (a.0.0 ∷ b.0) set b.2)
      (set_found place t types bytes a.0 b.0
      (parameter_is (waiting place) (is_null_at 0 nulls place) t bytes a.0 a.1)
      (set_is (place + 1) types a.0.1 b.0 b.1))
