-- An execution reads as the contents of its values.
use Rattle.std.proofs.Common.{◌≡◌, ℕ, suc, ◌+◌, ◌/◌, ◌^◌, ◌<◌, ◌==◌, Bool, true, false, List, [], ◌∷◌, ◌++◌, length}
use Rattle.std.proofs.Common.{get_or, map, Option, Some, None, Result, Ok, refl, ◌∙◌, ap, arith}
use Rattle.std.specs.Prelude.{if◌then◌else◌, ◌||◌}
use Rattle.std.specs.List.{AllByRecursion, flat_map}
use Rattle.std.proofs.lemmas.Bool.{ne_eqb}
use Rattle.byteorder.specs.Endian.{little_bytes}
use Rattle.mysql_values.specs.Values.{FitsFields}
use Rattle.mysql_values.specs.Cells.{cell, is_unsigned, type_number}
use Rattle.mysql_values.specs.Content.{Content}
use Rattle.mysql_values.specs.Content.TheVariants as content
use Rattle.mysql_values.specs.Value.{Value}
use Rattle.mysql_values.specs.Value.TheVariants.{NULL, Bytes, Int, UInt, Float, Double, Date, Time}
use Rattle.mysql_values.specs.Values.{content_of, is_null}
use Rattle.mysql_field_lists.specs.NullBitmap.{is_null_at}
use Rattle.mysql_wire.specs.Wire.{◌>>=◌}
use Rattle.mysql_stmt.specs.Executions.{execute_command, execution, null_bitmap, parameters, sent_cell, type_bytes}
use Rattle.mysql_stmt.specs.NullBits.{bitmap_length, null_at}
use Rattle.mysql_receive.specs.declared.fault.StreamFault.{StreamFault}
use Rattle.mysql_receive.specs.declared.fault.StreamFault.TheVariants.{BadExecute, BadType, NotPrepared}
use Rattle.mysql_receive.specs.declared.param_type.ParamType.{ParamType}
use Rattle.mysql_receive.specs.Fields.{number_or, must}
use Rattle.mysql_receive.specs.InForce.{StatementState}
use Rattle.mysql_receive.specs.Laws.{WrittenCellsAreHeld}
use Rattle.mysql_receive.specs.Layout.{ExecuteHead, binding_at, execute_head, id_at, is_type, type_at, types_at}
use Rattle.mysql_receive.specs.Query.{Statement, place_count}
use Rattle.mysql_receive.specs.Reading.{PayloadReadsAs, content_at, execute_at, parameter_at, set_at, types_in_force}
use Rattle.mysql_command_rules.proofs.FieldsRead.{byte_front, bytes_front, id_front, number_front}
use Rattle.mysql_command_rules.proofs.Binds.{bind_from}

-- ---- types

-- the type that a value is sent by
type_of : Value → ParamType
type_of value = record { number = type_number value; unsigned = is_unsigned value }

-- a pair of a type and a flag
pair_front : (number flags : ℕ) (rest : List ℕ) (y : Result (ParamType × List ℕ) StreamFault)
    → (must BadType (is_type number) >>= λ named. must BadType (flags == 0 ||
    flags == 128) >>= λ known. Ok (record { number = number; unsigned = flags == 128 }, rest)) ≡
    y
    → type_at BadExecute (number ∷ flags ∷ rest) ≡ y
pair_front number flags rest y h = rw (byte_front BadExecute number (flags ∷ rest), byte_front BadExecute flags rest) h

-- the type of a value is read
one_type : (value : Value) (rest : List ℕ) → type_at BadExecute (type_bytes value ++ rest) ≡
    Ok (record { number = type_number value; unsigned = is_unsigned value }, rest)
one_type NULL rest = pair_front 6 0 rest _ refl
one_type (Bytes bytes) rest = pair_front 253 0 rest _ refl
one_type (Int z) rest = pair_front 8 0 rest _ refl
one_type (UInt n) rest = pair_front 8 128 rest _ refl
one_type (Float bits) rest = pair_front 4 0 rest _ refl
one_type (Double bits) rest = pair_front 5 0 rest _ refl
one_type (Date year month day hour minute second micros) rest = pair_front 12 0 rest _ refl
one_type (Time negative days hours minutes seconds micros) rest = pair_front 11 0 rest _ refl

-- the types of values are read
types_read : (values : List Value) (rest : List ℕ) →
    types_at BadExecute (length values) (flat_map type_bytes values ++ rest) ≡
    Ok (map type_of values, rest)
unfolding types_at type_of
types_read [] rest = refl
types_read (value ∷ values) rest =
    bind_from (type_at BadExecute (type_bytes value ++ (flat_map type_bytes values ++ rest)))
    (λ first. types_at BadExecute (length values) first.1 >>= λ others. Ok (
      first.0 ∷ others.0,
      others.1,
    ))
    (type_of value, flat_map type_bytes values ++ rest) (Ok (map type_of (value ∷ values), rest))
    (one_type value (flat_map type_bytes values ++ rest))
    (bind_from (types_at BadExecute (length values) (flat_map type_bytes values ++ rest))
    (λ others. Ok (type_of value ∷ others.0, others.1))
    (map type_of values, rest) (Ok (map type_of (value ∷ values), rest)) (types_read values rest) refl)

-- ---- what waits for the places

-- what waits for a value's place before its execution: its bytes, where byte strings were sent apart
abbrev pub apart_bytes : Bool → Value → Option (List ℕ)
apart_bytes true (Bytes bytes) = Some bytes
apart_bytes apart value = None

-- so much waits for each of the values that stand at this place and the next ones
abbrev pub Wait : (ℕ → Option (List ℕ)) → ℕ → Bool → List Value → Type 0
Wait pieces place apart [] = Unit {0}
Wait pieces place apart (value ∷ values) = (pieces place ≡ apart_bytes apart value) ×
    Wait pieces (place + 1) apart values

-- where nothing waits at all, it is what waits for values whose byte strings are not sent apart
pub nothing_apart : (pieces : ℕ → Option (List ℕ)) → ((k : ℕ) → pieces k ≡ None) →
    (place : ℕ) (values : List Value) → Wait pieces place false values
nothing_apart pieces none place [] = tt
nothing_apart pieces none place (value ∷ values) = (none place, nothing_apart pieces none (place + 1) values)

-- ---- cells

-- a place for which nothing waits holds by its bit nothing or the content of its cell
held_by : (b null : Bool) (t : ParamType) (bytes : List ℕ) → null ≡ b →
    parameter_at None null t bytes ≡
    (if b then Ok (content.Null, bytes) else content_at BadExecute t bytes)
held_by true null t bytes is = rw is refl
held_by false null t bytes is = rw is refl

module _ (law : WrittenCellsAreHeld) where
  -- a value whose cell stands first
  cell_held : (null : Bool) (value : Value) (held : Content) (rest : List ℕ) → FitsFields value →
      content_of value ≡ Some held → null ≡ is_null value →
      parameter_at None null (type_of value) (cell value ++ rest) ≡ Ok (held, rest)
  unfolding type_of
  cell_held null NULL held rest fits is bit =
      let e : content.Null ≡ held = cc in
      held_by true null (record { number = 6; unsigned = false }) rest bit ∙
      ap (λ h. Ok (h, rest)) e
  cell_held null value held rest fits is bit =
      held_by false null (record { number = type_number value; unsigned = is_unsigned value })
      (cell value ++ rest) bit ∙ law BadExecute value held rest fits is

  -- the same of a place for which nothing is known to wait
  cell_by : (waiting : Option (List ℕ)) (null : Bool) (value : Value) (held : Content)
      (rest : List ℕ) → waiting ≡ None → FitsFields value → content_of value ≡ Some held → null ≡
      is_null value →
      parameter_at waiting null (type_of value) (cell value ++ rest) ≡ Ok (held, rest)
  cell_by waiting null value held rest none fits is bit =
      ap (λ o. parameter_at o null (type_of value) (cell value ++ rest)) none ∙
      cell_held null value held rest fits is bit

  -- a value by what waits for it, else by its cell
  one_held : (apart : Bool) (waiting : Option (List ℕ)) (null : Bool) (value : Value)
      (held : Content) (rest : List ℕ) → waiting ≡ apart_bytes apart value → FitsFields value →
      content_of value ≡ Some held → null ≡ is_null value →
      parameter_at waiting null (type_of value) (sent_cell apart value ++ rest) ≡ Ok (held, rest)
  one_held true waiting null (Bytes bytes) held rest waits fits is bit =
      let e : content.Bytes bytes ≡ held = cc in
      ap (λ o. parameter_at o null (type_of (Bytes bytes)) rest) waits ∙ ap (λ h. Ok (h, rest)) e
  one_held true waiting null value held rest waits fits is bit = cell_by waiting null value held rest waits fits is bit
  one_held false waiting null value held rest waits fits is bit = cell_by waiting null value held rest waits fits is bit

  -- the places hold what their values hold
  set_reads : (apart : Bool) (pieces : ℕ → Option (List ℕ)) (nulls : List ℕ) (place : ℕ)
      (values : List Value) (contents : List Content) → Wait pieces place apart values →
      AllByRecursion (λ value. FitsFields value) values → map content_of values ≡
      map Some contents → ((k : ℕ) → k < length values → is_null_at 0 nulls (place + k) ≡
      is_null (get_or values k NULL)) →
      set_at pieces nulls place (map type_of values) (flat_map (sent_cell apart) values) ≡ Ok contents
  unfolding set_at
  set_reads apart pieces nulls place [] [] waits fit each bits = refl
  set_reads apart pieces nulls place [] (held ∷ contents) waits fit each bits = cc
  set_reads apart pieces nulls place (value ∷ values) [] waits fit each bits = cc
  set_reads apart pieces nulls place (value ∷ values) (held ∷ contents) waits fit each bits =
      let first : content_of value ≡ Some held = cc in
      let others : map content_of values ≡ map Some contents = cc in
      let bit : is_null_at 0 nulls place ≡ is_null value =
      ap (λ n. is_null_at 0 nulls n) (omega arith) ∙ bits 0 (omega arith) in
      let next : (k : ℕ) → k < length values → is_null_at 0 nulls (place + 1 + k) ≡ is_null (get_or values k NULL) =
      λ k inside. ap (λ n. is_null_at 0 nulls n) (omega arith) ∙ bits (suc k) (omega arith) in
      bind_from (parameter_at (pieces place) (is_null_at 0 nulls place) (type_of value)
      (sent_cell apart value ++ flat_map (sent_cell apart) values))
      (λ first. set_at pieces nulls (place + 1) (map type_of values) first.1 >>= λ others. Ok (first.0 ∷ others))
      (held, flat_map (sent_cell apart) values) (Ok (held ∷ contents))
      (one_held apart (pieces place) (is_null_at 0 nulls place) value held
      (flat_map (sent_cell apart) values) waits.0 fit.0 first bit)
      (bind_from (set_at pieces nulls (place + 1) (map type_of values)
      (flat_map (sent_cell apart) values)) (λ others. Ok (held ∷ others)) contents
      (Ok (held ∷ contents))
      (set_reads apart pieces nulls (place + 1) values contents waits.1 fit.1 others next) refl)

-- ---- the head

-- what stands before the cells, and the cells
head_of : Bool → List Value → ExecuteHead
head_of apart [] = record { nulls = []; own = None; cells = [] }
head_of apart (value ∷ values) =
    record {
      nulls = null_bitmap (value ∷ values);
      own =
          Some (map type_of (value ∷ values));
      cells = flat_map (sent_cell apart) (value ∷ values);
    }

-- the bitmap, the mark and the types are read
binding_reads : (apart : Bool) (values : List Value) →
    binding_at (length values) (null_bitmap values ++ 1 ∷
    (flat_map type_bytes values ++ flat_map (sent_cell apart) values))
    ≡ Ok (record {
      nulls = null_bitmap values;
      own = Some (map type_of values);
      cells =
          flat_map (sent_cell apart) values;
    })
unfolding binding_at
binding_reads apart values =
    rw (
      bytes_front BadExecute ((length values + 7) / 8) (null_bitmap values) (1 ∷
          (flat_map type_bytes values ++ flat_map (sent_cell apart) values)) (bitmap_length values),
      byte_front BadExecute 1 (flat_map type_bytes values ++ flat_map (sent_cell apart) values),
      types_read values (flat_map (sent_cell apart) values),
    ) refl

-- what an execution carries of its values
carried : Bool → List Value → List ℕ
carried apart values = parameters (null_bitmap values) values apart

-- what is carried of values is read by their count
head_by : (apart : Bool) (values : List Value) (n : ℕ) → n ≡ length values →
    (if n == 0 then Ok (record { nulls = []; own = None; cells = carried apart values }) else
    binding_at n (carried apart values)) ≡ Ok (head_of apart values)
unfolding head_of carried
head_by apart [] n is = rw is refl
head_by apart (value ∷ values) n is = by (n == 0) (ne_eqb n 0 (λ none. absurd (omega arith)))
  where
    by : (b : Bool) → b ≡ false →
        (if b then Ok (record { nulls = []; own = None; cells = carried apart (value ∷ values) })
        else binding_at n (carried apart (value ∷ values))) ≡
        Ok (head_of apart (value ∷ values))
    by true none = cc
    by false none = ap (λ k. binding_at k (carried apart (value ∷ values))) is ∙ binding_reads apart (value ∷ values)

-- what stands behind the first byte of an execution is read
head_reads : (c : Statement) (id : ℕ) (apart : Bool) (values : List Value) → id < 2 ^ 32 → c.id ≡
    id → place_count c.query ≡ length values →
    execute_head c (little_bytes 4 id ++ 0 ∷ (little_bytes 4 1 ++ carried apart values)) ≡ Ok (head_of apart values)
unfolding execute_head
head_reads c id apart values small same count =
    let behind : List ℕ = little_bytes 4 1 ++ carried apart values in
    bind_from (id_at c (little_bytes 4 id ++ 0 ∷ behind))
    (λ rest. number_or BadExecute 1 rest >>= λ cursor. must BadExecute (cursor.0 == 0) >>= λ none.
    number_or BadExecute 4 cursor.1 >>= λ count. must BadExecute (count.0 == 1) >>= λ one.
    if place_count c.query == 0 then Ok (record { nulls = []; own = None; cells = count.1 }) else
    binding_at (place_count c.query) count.1)
    (0 ∷ behind) (Ok (head_of apart values)) (id_front c id (0 ∷ behind) small same)
    (bind_from (number_or BadExecute 1 (0 ∷ behind))
    (λ cursor. must BadExecute (cursor.0 == 0) >>= λ none. number_or BadExecute 4 cursor.1 >>=
    λ count. must BadExecute (count.0 == 1) >>= λ one.
    if place_count c.query == 0 then Ok (record { nulls = []; own = None; cells = count.1 }) else
    binding_at (place_count c.query) count.1)
    (0, behind) (Ok (head_of apart values)) (byte_front BadExecute 0 behind)
    (bind_from (number_or BadExecute 4 behind)
    (λ count. must BadExecute (count.0 == 1) >>= λ one. if place_count c.query == 0 then Ok
    (record { nulls = []; own = None; cells = count.1 }) else binding_at (place_count c.query)
    count.1)
    (1, carried apart values) (Ok (head_of apart values))
    (number_front BadExecute 4 1 (carried apart values) (omega arith))
    (head_by apart values (place_count c.query) count)))

-- ---- an execution

-- the types that an execution carries count
types_found : (c : Statement) (s : StatementState) (apart : Bool) (values : List Value) →
    place_count c.query ≡ length values → types_in_force c s (head_of apart values).own ≡
    Ok (map type_of values)
unfolding head_of
types_found c s apart [] count = rw count refl
types_found c s apart (value ∷ values) count =
    by (place_count c.query == 0) (ne_eqb (place_count c.query) 0 (λ none. absurd (omega arith)))
    refl
  where
    by : (b : Bool) → b ≡ false → (place_count c.query == 0) ≡ b →
        types_in_force c s (Some (map type_of (value ∷ values))) ≡ Ok (map type_of (value ∷ values))
    by true none here = cc
    by false none here = rw here refl

-- the bits of the bitmap are those of the values
head_bits : (apart : Bool) (values : List Value) (k : ℕ) → k < length values →
    is_null_at 0 (head_of apart values).nulls (0 + k) ≡ is_null (get_or values k NULL)
unfolding head_of
head_bits apart [] k inside = absurd (omega arith)
head_bits apart (value ∷ values) k inside =
    ap (λ n. is_null_at 0 (null_bitmap (value ∷ values)) n) (omega arith) ∙
    null_at (value ∷ values) k inside

-- the cells are those of the values
head_cells : (apart : Bool) (values : List Value) → (head_of apart values).cells ≡ flat_map (sent_cell apart) values
unfolding head_of
head_cells apart [] = refl
head_cells apart (value ∷ values) = refl

module _ (law : WrittenCellsAreHeld) (c : Statement) (s : StatementState) (apart : Bool) (id : ℕ)
    (values : List Value) (contents : List Content) (prepared : s.prepared ≡
    true) (waits : Wait s.long_data 0 apart values)
    (small : id < 2 ^ 32) (same : c.id ≡ id) (count : place_count c.query ≡
    length values) (fit : AllByRecursion (λ value. FitsFields value) values)
    (each : map content_of values ≡ map Some contents) where
  -- the body of an execution reads as what its values hold
  body_reads : execute_at c s (little_bytes 4 id ++ 0 ∷ (little_bytes 4 1 ++ carried apart values)) ≡ Ok contents
  unfolding execute_at
  body_reads =
      let body : List ℕ = little_bytes 4 id ++ 0 ∷ (little_bytes 4 1 ++ carried apart values) in
      bind_from (must NotPrepared s.prepared)
      (λ known. execute_head c body >>= λ head. types_in_force c s head.own >>= λ types. set_at
      s.long_data head.nulls 0 types head.cells) 0 (Ok contents)
      (ap (λ b. must NotPrepared b) prepared)
      (bind_from (execute_head c body)
      (λ head. types_in_force c s head.own >>= λ types. set_at s.long_data head.nulls 0 types
      head.cells) (head_of apart values) (Ok contents)
      (head_reads c id apart values small same count)
      (bind_from (types_in_force c s (head_of apart values).own)
      (λ types. set_at s.long_data (head_of apart values).nulls 0 types
      (head_of apart values).cells) (map type_of values) (Ok contents)
      (types_found c s apart values count)
      (ap (λ l. set_at s.long_data (head_of apart values).nulls 0 (map type_of values) l) (head_cells apart values)
      ∙ set_reads law apart s.long_data (head_of apart values).nulls 0 values contents waits fit
      each (head_bits apart values))))

  -- where what is sent apart waits, an execution reads as what its values hold
  pub execution_reads : PayloadReadsAs c s (execute_command id values apart) (contents ∷ [])
  unfolding execution carried
  execution_reads = (contents, body_reads, refl)
