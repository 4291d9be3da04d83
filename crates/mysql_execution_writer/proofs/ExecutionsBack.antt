-- Executions that were written are read again.
use Rattle.std.proofs.Common.{◌≡◌, ℕ, suc, ◌+◌, ◌-◌, ◌/◌, ◌%◌, ◌^◌, ◌<◌, ◌==◌, Bool, true, false, List, [], ◌∷◌, ◌++◌}
use Rattle.std.proofs.Common.{length, map, get_or, Option, Some, None, refl, sym, ◌∙◌, ap, append_assoc, length-append}
use Rattle.std.proofs.Common.{arith, lit<}
use Rattle.std.specs.Prelude.{◌&&◌, ◌||◌, if◌then◌else◌, is_some, nat_le, nat_lt, not, unwrap_or}
use Rattle.std.specs.List.{list_all}
use Rattle.std.proofs.lemmas.Bool.{eqb-true, eq-eqb, le-leb, lt-leb, ltb-true, ne_eqb}
use Rattle.std.proofs.lemmas.List.{get_or-append-add, get_or_append_left, length-map}
use Rattle.byteorder.specs.Endian.{little_bytes}
use Rattle.mysql_buf.specs.NumberLaws.{little-reads_back}
use Rattle.mysql_buf.specs.Reading.{lenenc_int_at}
use Rattle.mysql_buf.specs.TextLaws.{lenenc_int-reads_back}
use Rattle.mysql_buf.specs.Writing.{lenenc_int}
use Rattle.mysql_fields.specs.Laws.{bytes-back}
use Rattle.mysql_const.specs.declared.capabilities.Capabilities.{Capabilities}
use Rattle.mysql_field_lists.specs.NullBitmap.{bitmap_len, is_null_at}
use Rattle.mysql_cells.specs.TypedCells.{TypedCellsReadBack}
use Rattle.mysql_cells.specs.Values.{is_null}
use Rattle.mysql_cells.specs.declared.value.Value.{Value}
use Rattle.mysql_cells.specs.declared.value.Value.TheVariants.{NULL}
use Rattle.mysql_stmt.specs.Executions.{null_bitmap}
use Rattle.mysql_stmt.specs.Statements.{BitmapsSayWhichAreNull}
use Rattle.mysql_executions.specs.declared.types.BoundType.{BoundType}
use Rattle.mysql_executions.specs.Executions.{Binding, Execution, ExecutionHead, attributes_at, binding_at}
use Rattle.mysql_executions.specs.Executions.{execution_at, execution_head, gives_count, named_flags, parameters_at}
use Rattle.mysql_executions.specs.Executions.{readable_head}
use Rattle.mysql_executions.specs.Fields.{◌>>=◌, ◌>>◌, must, number_at}
use Rattle.mysql_executions.specs.InForce.{InForce, types_that_count}
use Rattle.mysql_executions.specs.Types.{has_query_attributes, own_types_at, types_at}
use Rattle.mysql_executions.specs.Views.{types_by}
use Rattle.mysql_execution_writer.specs.Cells.{are_attributes, are_parameters, as_read, attributes_bytes, fits_name}
use Rattle.mysql_execution_writer.specs.Cells.{parameters_bytes, types_bytes}
use Rattle.mysql_execution_writer.specs.Laws.{ExecutionsReadBack, FitsExecution, HaveLengths}
use Rattle.mysql_execution_writer.specs.Written.{all_values, attributes_as_read, binding_bytes, can_be_put}
use Rattle.mysql_execution_writer.specs.Written.{can_have_attributes, can_have_flags, can_have_types, execution_as_read}
use Rattle.mysql_execution_writer.specs.Written.{execution_bytes, flags_of, types_of_attributes, values_of}
use Rattle.mysql_execution_writer.proofs.Loops.{and_left, and_right}
use Rattle.mysql_execution_writer.proofs.TypesBack.{all_types_back}
use Rattle.mysql_execution_writer.proofs.ValuesBack.{SayNulls, attributes_back, names_fit, parameters_back}

-- ---- what an execution that can be written is

pub record Parts (c : Capabilities) (s : InForce) (e : Execution) : Type 0 where
  pub whole : not s.broken ≡ true
  pub flags : can_have_flags c e ≡ true
  pub parameters : (length e.parameters == s.count) ≡ true
  pub types : can_have_types s e e.types ≡ true
  pub room : can_have_attributes c s e ≡ true
  pub names : list_all (fits_name (has_query_attributes c)) (unwrap_or e.types []) ≡ true
  pub values : are_parameters s.long_data 0 (types_by e.types s.types) e.parameters ≡ true
  pub attributes : are_attributes (has_query_attributes c) e.attributes ≡ true

pub parts : (c : Capabilities) (s : InForce) (e : Execution) → can_be_put c s e ≡ true → Parts c s e
unfolding can_be_put
parts c s e can =
    let g = and_left _ (are_attributes (has_query_attributes c) e.attributes) can in
    let f = and_left _ (are_parameters s.long_data 0 (types_by e.types s.types) e.parameters) g in
    let n = and_left _ (list_all (fits_name (has_query_attributes c)) (unwrap_or e.types [])) f in
    let r = and_left _ (can_have_attributes c s e) n in
    let t = and_left _ (can_have_types s e e.types) r in
    let p = and_left _ (length e.parameters == s.count) t in
    record {
      whole = and_left (not s.broken) (can_have_flags c e) p;
      flags = and_right (not s.broken) (can_have_flags c e) p;
      parameters = and_right _ (length e.parameters == s.count) t;
      types = and_right _ (can_have_types s e e.types) r;
      room = and_right _ (can_have_attributes c s e) n;
      names = and_right _ (list_all (fits_name (has_query_attributes c)) (unwrap_or e.types [])) f;
      values = and_right _ (are_parameters s.long_data 0 (types_by e.types s.types) e.parameters) g;
      attributes = and_right _ (are_attributes (has_query_attributes c) e.attributes) can;
    }

-- ---- the binding

-- what a bitmap and a mark make
abbrev marked : List ℕ → ℕ × List ℕ → Option Binding
marked bits bound = must (nat_le bound.0 1) >> Some (record { nulls = bits; bound = bound.0 == 1; rest = bound.1 })

abbrev made : List ℕ → Bool → List ℕ → Option Binding
made bits bound rest = Some (record { nulls = bits; bound = bound; rest = rest })

flag_back : (bits : List ℕ) (bound : Bool) (rest : List ℕ) →
    (number_at 1 (little_bytes 1 (if bound then 1 else 0) ++ rest) >>= marked bits) ≡
    made bits bound rest
flag_back bits true rest = rw (little-reads_back 1 1 rest (lit< tt)) refl
flag_back bits false rest = rw (little-reads_back 1 0 rest (lit< tt)) refl

nothing_null : [] ≡ null_bitmap []
unfolding null_bitmap
nothing_null = refl

pub binding_back : BitmapsSayWhichAreNull → (values : List Value) (bound : Bool) (rest : List ℕ) →
    (length values ≡ 0 → bound ≡ false)
    → binding_at (length values) (binding_bytes values bound ++ rest) ≡
    Some (record { nulls = null_bitmap values; bound = bound; rest = rest })
unfolding binding_at
binding_back law [] bound rest none = ap (λ (b : Bool). made [] b rest) (sym (none refl)) ∙
    ap (λ (bits : List ℕ). made bits bound rest) nothing_null
binding_back law (value ∷ values) bound rest none =
    let bits = null_bitmap (value ∷ values) in
    let flag = little_bytes 1 (if bound then 1 else 0) in
    let same : suc (length values) + 7 + 0 ≡ suc (length values) + 7 = omega arith in
    let long : bitmap_len 0 (suc (length values)) ≡ length bits = ap (λ n. n / 8) same ∙ sym (law.0 (value ∷ values)) in
    let some : (suc (length values) == 0) ≡ false =
    ne_eqb (suc (length values)) 0 (λ zero_is. omega (arith, zero_is)) in
    ap (λ (b : Bool). binding_at (suc (length values)) ((if b then [] else bits ++ flag) ++ rest)) some
    ∙ ap (binding_at (suc (length values))) (append_assoc bits flag rest)
    ∙ ap (λ (r : Option (List ℕ × List ℕ)). r >>= λ nulls. number_at 1 nulls.1 >>= marked nulls.0)
    (bytes-back (bitmap_len 0 (suc (length values))) bits (flag ++ rest) long)
    ∙ flag_back bits bound rest

-- ---- the head

count_step : (given : Bool) (n k : ℕ) (rest : List ℕ) → k < 2 ^ 64 → (given ≡ false → n ≡ k)
    → (if given then lenenc_int_at ((if given then lenenc_int k else []) ++ rest) else Some (
      n,
      (if given then lenenc_int k else []) ++ rest,
    )) ≡ Some (k, rest)
count_step true n k rest fits same = lenenc_int-reads_back k rest fits
count_step false n k rest fits same = ap (λ (m : ℕ). Some (m, rest)) (same refl)

or_false : (x y : Bool) → (x || y) ≡ true → x ≡ false → y ≡ true
or_false true y e h = absurd cc
or_false false y e h = e

-- the flags that have a name, of a cursor and of a number that is given
abbrev named_by : Bool → ℕ → ℕ
named_by available cursor = cursor + (if available then 8 else 0)

flags_small : (attributed available : Bool) (cursor nameless : ℕ) → cursor < 8 →
    (attributed || not available) ≡ true → nameless % (if attributed then 16 else 8) ≡ 0 →
    nameless < 256
    → named_by available cursor + nameless < 256
flags_small true true cursor nameless few can none small = omega (arith, few, none, small)
flags_small true false cursor nameless few can none small = omega (arith, few, none, small)
flags_small false true cursor nameless few can none small = absurd cc
flags_small false false cursor nameless few can none small = omega (arith, few, none, small)

named_back : (attributed available : Bool) (cursor nameless : ℕ) → cursor < 8 →
    (attributed || not available) ≡ true → nameless % (if attributed then 16 else 8) ≡ 0
    → (named_by available cursor + nameless) % (if attributed then 16 else 8) ≡ named_by available cursor
named_back true true cursor nameless few can none = omega (arith, few, none)
named_back true false cursor nameless few can none = omega (arith, few, none)
named_back false true cursor nameless few can none = absurd cc
named_back false false cursor nameless few can none = omega (arith, few, none)

cursor_back : (attributed available : Bool) (cursor nameless : ℕ) → cursor < 8 →
    nameless % (if attributed then 16 else 8) ≡ 0 → (named_by available cursor + nameless) % 8 ≡
    cursor
cursor_back true true cursor nameless few none = omega (arith, few, none)
cursor_back true false cursor nameless few none = omega (arith, few, none)
cursor_back false true cursor nameless few none = omega (arith, few, none)
cursor_back false false cursor nameless few none = omega (arith, few, none)

available_is : (available : Bool) (cursor : ℕ) → cursor < 8 → nat_le 8 (named_by available cursor) ≡ available
available_is true cursor few = le-leb 8 (cursor + 8) (omega arith)
available_is false cursor few = lt-leb 8 (cursor + 0) (omega (arith, few))

module _ (law : BitmapsSayWhichAreNull) (c : Capabilities) (s : InForce) (e : Execution)
    (p : Parts c s e) (fits : FitsExecution e) where
  own_flags : (nat_lt e.cursor.0 8 && (has_query_attributes c || not e.count_available)) ≡ true
  own_flags = and_left _ (named_flags c e.nameless_flags == 0) p.flags

  few : e.cursor.0 < 8
  few = ltb-true e.cursor.0 8
      (and_left (nat_lt e.cursor.0 8) (has_query_attributes c || not e.count_available) own_flags)

  available : (has_query_attributes c || not e.count_available) ≡ true
  available = and_right (nat_lt e.cursor.0 8) (has_query_attributes c || not e.count_available) own_flags

  none_named : named_flags c e.nameless_flags ≡ 0
  none_named = eqb-true (named_flags c e.nameless_flags) 0 (and_right _ (named_flags c e.nameless_flags == 0) p.flags)

  flags_named : named_flags c (flags_of e) ≡ named_by e.count_available e.cursor.0
  flags_named = named_back (has_query_attributes c) e.count_available e.cursor.0 e.nameless_flags
      few available none_named

  nameless_back : flags_of e - named_flags c (flags_of e) ≡ e.nameless_flags
  nameless_back = omega (arith, flags_named)

  count_available_back : nat_le 8 (named_flags c (flags_of e)) ≡ e.count_available
  count_available_back = ap (nat_le 8) flags_named ∙ available_is e.count_available e.cursor.0 few

  counted : length (all_values e) ≡ length e.parameters + length e.attributes
  counted = omega (arith, length-append e.parameters (values_of e.attributes), length-map e.attributes (λ a. a.value))

  own_count : length e.parameters ≡ s.count
  own_count = eqb-true (length e.parameters) s.count p.parameters

  not_given : gives_count c (flags_of e) s.count ≡ false → s.count ≡ length (all_values e)
  not_given no_count = omega (
    arith,
    counted,
    own_count,
    eqb-true (length e.attributes) 0
        (or_false (gives_count c (flags_of e) s.count) (length e.attributes == 0) p.room no_count),
  )

  unbound : (types : Option (List BoundType)) → can_have_types s e types ≡ true →
      length (all_values e) ≡ 0 → is_some types ≡ false
  unbound None can none = refl
  unbound (Some own) can none =
      absurd (omega (
        arith,
        none,
        ltb-true 0 (length (all_values e))
            (and_right (length own == s.count) (nat_lt 0 (length (all_values e))) can),
      ))

  bound_or_own : (types : Option (List BoundType)) → can_have_types s e types ≡ true →
      (is_some types || (length (all_values e) == s.count)) ≡ true
  bound_or_own (Some own) can = refl
  bound_or_own None can =
      eq-eqb (length (all_values e)) s.count
      (omega (
        arith,
        counted,
        own_count,
        eqb-true (length e.attributes) 0
            (and_right (length s.types == s.count) (length e.attributes == 0) can),
      ))

  head : List ℕ → ExecutionHead
  head rest = record {
    statement = e.statement;
    flags = flags_of e;
    iterations = e.iterations;
    count = length (all_values e);
    binding =
        record { nulls = null_bitmap (all_values e); bound = is_some e.types; rest = rest };
  }

  start : List ℕ → List ℕ
  start rest = little_bytes 4 e.statement ++ (little_bytes 1 (flags_of e) ++ (little_bytes 4 e.iterations
      ++ ((if gives_count c (flags_of e) s.count then lenenc_int (length (all_values e)) else []) ++
      (binding_bytes (all_values e) (is_some e.types) ++ rest))))

  head_back : (rest : List ℕ) → execution_head c s.count (start rest) ≡ Some (head rest)
  unfolding execution_head start head
  head_back rest =
      let binding = binding_bytes (all_values e) (is_some e.types) ++ rest in
      let given = if gives_count c (flags_of e) s.count then lenenc_int (length (all_values e)) else [] in
      rw (
        little-reads_back 4 e.statement (little_bytes 1 (flags_of e) ++
            (little_bytes 4 e.iterations ++ (given ++ binding))) fits.statement,
        little-reads_back 1 (flags_of e) (little_bytes 4 e.iterations ++ (given ++ binding))
            (flags_small (has_query_attributes c) e.count_available e.cursor.0 e.nameless_flags few
            available none_named fits.flags),
        little-reads_back 4 e.iterations (given ++ binding) fits.iterations,
        count_step (gives_count c (flags_of e) s.count) s.count (length (all_values e)) binding fits.count not_given,
        le-leb s.count (length (all_values e)) (omega (arith, counted, own_count)),
        binding_back law (all_values e) (is_some e.types) rest (unbound e.types p.types),
      ) refl

  readable_back : (rest : List ℕ) → readable_head c s (start rest) ≡ Some (head rest)
  unfolding readable_head head
  readable_back rest =
      rw (p.whole, head_back rest, bound_or_own e.types p.types) refl

  -- ---- the types

  own_back : (types : Option (List BoundType)) (rest : List ℕ) → can_have_types s e types ≡ true →
      HaveLengths (unwrap_or types []) →
      list_all (fits_name (has_query_attributes c)) (unwrap_or types []) ≡ true
      → own_types_at (is_some types) (has_query_attributes c) s.count
      (types_bytes (has_query_attributes c) (unwrap_or types []) ++ rest) ≡ Some (types, rest)
  own_back None rest can short names = refl
  own_back (Some own) rest can short names =
      ap (λ (r : Option (List BoundType × List ℕ)). r >>= λ types. Some (Some types.0, types.1))
      (all_types_back (has_query_attributes c) s.count own rest
      (sym (eqb-true (length own) s.count
      (and_left (length own == s.count) (nat_lt 0 (length (all_values e))) can))) short names)

  count_back : (types : Option (List BoundType)) → can_have_types s e types ≡ true →
      types_that_count s types ≡ Some (types_by types s.types)
  count_back (Some own) can = refl
  count_back None can = ap (λ (b : Bool). must b >> Some s.types)
      (and_left (length s.types == s.count) (length e.attributes == 0) can)

  further_back : (rest : List ℕ) →
      types_at (has_query_attributes c) (length (all_values e) - s.count)
      (types_bytes (has_query_attributes c) (types_of_attributes e.attributes) ++ rest) ≡
      Some (types_of_attributes e.attributes, rest)
  further_back rest =
      all_types_back (has_query_attributes c) (length (all_values e) - s.count) (types_of_attributes e.attributes) rest
      (omega (arith, counted, own_count, length-map e.attributes (λ a. a.bound_type)))
      fits.attribute_names (names_fit (has_query_attributes c) e.attributes p.attributes)

  -- ---- the values

  say_parameters : SayNulls (null_bitmap (all_values e)) 0 e.parameters
  say_parameters k lt =
      ap (λ n. is_null_at 0 (null_bitmap (all_values e)) n) (omega arith) ∙
      law.1 (all_values e) k (omega (arith, lt, counted))
      ∙ ap is_null (get_or_append_left e.parameters (values_of e.attributes) NULL k lt)

  say_attributes : SayNulls (null_bitmap (all_values e)) s.count (values_of e.attributes)
  say_attributes k lt =
      law.1 (all_values e) (s.count + k) (omega (arith, lt, counted, own_count, length-map e.attributes (λ a. a.value)))
      ∙ ap (λ n. is_null (get_or (all_values e) (n + k) NULL)) (sym own_count) ∙
      ap is_null (get_or-append-add e.parameters (values_of e.attributes) k NULL)

  module _ (back : TypedCellsReadBack) where
    given_back : (rest : List ℕ) →
        parameters_at s.long_data (null_bitmap (all_values e)) (types_by e.types s.types)
        (parameters_bytes s.long_data 0 (types_by e.types s.types) e.parameters ++ rest)
        ≡ Some (map as_read e.parameters, rest)
    given_back rest = parameters_back back s.long_data (null_bitmap (all_values e)) 0
        (types_by e.types s.types) e.parameters rest fits.parameters say_parameters p.values

    last_back : attributes_at (null_bitmap (all_values e)) s.count
        (types_of_attributes e.attributes) (attributes_bytes e.attributes ++ e.rest) ≡
        Some (attributes_as_read e.attributes, e.rest)
    last_back = attributes_back back (has_query_attributes c) (null_bitmap (all_values e)) s.count
        e.attributes e.rest fits.attributes say_attributes p.attributes

    whole_back : execution_at c s (execution_bytes c s e) ≡ Some (execution_as_read e)
    unfolding execution_at execution_bytes start head
    whole_back =
        let named = has_query_attributes c in
        let last = attributes_bytes e.attributes ++ e.rest in
        let values = parameters_bytes s.long_data 0 (types_by e.types s.types) e.parameters ++ last in
        let further = types_bytes named (types_of_attributes e.attributes) ++ values in
        let rest = types_bytes named (unwrap_or e.types []) ++ further in
        rw (
          readable_back rest,
          own_back e.types further p.types fits.names p.names,
          count_back e.types p.types,
          further_back values,
          given_back last,
          last_back,
        )
        (λ i. Some (record (execution_as_read e) {
          cursor = record {
            0 = cursor_back (has_query_attributes c) e.count_available e.cursor.0
                e.nameless_flags few none_named i;
          };
          count_available = count_available_back i;
          nameless_flags = nameless_back i;
        }))

pub executions_read_back : BitmapsSayWhichAreNull → TypedCellsReadBack → ExecutionsReadBack
executions_read_back law back c s e fits can = whole_back law c s e (parts c s e can) fits back
