-- One bulk request read back, and what it leaves in force.
use Rattle.std.proofs.Common.{◌≡◌, ℕ, zero, suc, ◌+◌, ◌^◌, ◌<◌, ◌≤◌, ◌==◌, true, false, List, [], ◌∷◌, ◌++◌, length}
use Rattle.std.proofs.Common.{get_or, map, take, drop, Option, None, Some, Result, Ok, refl, sym, ◌∙◌, ap, subst, arith}
use Rattle.std.proofs.Common.{length-take, length-drop}
use Rattle.std.specs.Prelude.{if◌then◌else◌, not, ◌||◌}
use Rattle.std.specs.List.{AllByRecursion, flat_map, range_with_len}
use Rattle.std.specs.Option.{option_and_then, option_or}
use Rattle.std.specs.Result.{result_ok}
use Rattle.std.proofs.lemmas.Bool.{lt-ltb, ne_eqb}
use Rattle.std.proofs.lemmas.List.{append-nil, get_or-drop, get_or-take}
use Rattle.byteorder.specs.Endian.{little_bytes}
use Rattle.mysql_const.specs.FlagSets.{contains}
use Rattle.mysql_wire.specs.Wire.{◌>>=◌}
use Rattle.mysql_values.specs.Value.{Value}
use Rattle.mysql_values.specs.Value.TheVariants.{NULL, Bytes, Int, UInt, Float, Double, Date, Time}
use Rattle.mysql_bulk_builder.specs.Bulk.{bulk_execution, param_type_bytes, type_of_value}
use Rattle.mysql_bulk_builder.specs.Cut.{Row, rows_of}
use Rattle.mysql_bulk_builder.specs.InForce.{TypesServe, covered}
use Rattle.mysql_bulk_builder.specs.TypedCut.{PartFits, Typed, Typing, Untyped}
use Rattle.mysql_bulk_builder.specs.ValueTypes.{first_in_column, sent_type}
use Rattle.mysql_receive.specs.declared.fault.StreamFault.{StreamFault}
use Rattle.mysql_receive.specs.declared.fault.StreamFault.TheVariants.{BadBulk, BadType}
use Rattle.mysql_receive.specs.declared.param_type.ParamType.{ParamType}
use Rattle.mysql_receive.specs.Fields.{must}
use Rattle.mysql_receive.specs.InForce.{StatementState, after, is_waiting}
use Rattle.mysql_receive.specs.Laws.{WrittenCellsAreHeld}
use Rattle.mysql_receive.specs.Layout.{BulkHead, Types, are_bulk_flags, bulk_head, is_type, send_types_to_server}
use Rattle.mysql_receive.specs.Layout.{type_at, types_at}
use Rattle.mysql_receive.specs.Query.{Statement, place_count}
use Rattle.mysql_receive.specs.Reading.{PayloadReadsAs, RowsAt, bulk_rows, types_in_force}
use Rattle.mysql_command_rules.specs.Commands.{bulk_request}
use Rattle.mysql_command_rules.proofs.FieldsRead.{byte_front, id_front, number_front}
use Rattle.mysql_command_rules.proofs.Held.{held}
use Rattle.mysql_command_rules.proofs.ReadEach.{not_waiting}
use Rattle.mysql_command_rules.proofs.RequestRows.{IsHeld, Serves, read_type, rows_bytes, rows_read, types_by}

-- ---- types

-- a pair of a type and a flag
pair_front : (number flags : ℕ) (rest : List ℕ) (y : Result (ParamType × List ℕ) StreamFault)
    → (must BadType (is_type number) >>= λ named. must BadType (flags == 0 ||
    flags == 128) >>= λ known. Ok (record { number = number; unsigned = flags == 128 }, rest)) ≡
    y
    → type_at BadBulk (number ∷ flags ∷ rest) ≡ y
pair_front number flags rest y h = rw (byte_front BadBulk number (flags ∷ rest), byte_front BadBulk flags rest) h

-- the type of a value
one_type : (value : Value) (rest : List ℕ) →
    type_at BadBulk (param_type_bytes (type_of_value value) ++ rest) ≡ Ok (read_type value, rest)
one_type NULL rest = pair_front 6 0 rest _ refl
one_type (Bytes bytes) rest = pair_front 253 0 rest _ refl
one_type (Int z) rest = pair_front 8 0 rest _ refl
one_type (UInt n) rest = pair_front 8 128 rest _ refl
one_type (Float bits) rest = pair_front 4 0 rest _ refl
one_type (Double bits) rest = pair_front 5 0 rest _ refl
one_type (Date year month day hour minute second micros) rest = pair_front 12 0 rest _ refl
one_type (Time negative days hours minutes seconds micros) rest = pair_front 11 0 rest _ refl

-- the bytes of the types of columns
abbrev types_bytes : (ℕ → Value) → ℕ → ℕ → List ℕ
types_bytes f from columns =
    flat_map param_type_bytes
    (map (λ column. type_of_value (f column)) (range_with_len from columns))

-- they are read back
types_front : (f : ℕ → Value) (from columns : ℕ) (rest : List ℕ) →
    types_at BadBulk columns (types_bytes f from columns ++ rest) ≡
    Ok (types_by f from columns, rest)
unfolding types_at
types_front f from zero rest = refl
types_front f from (suc columns) rest =
    rw (one_type (f from) (types_bytes f (from + 1) columns ++ rest), types_front f (from + 1) columns rest) refl

-- ---- the head

module _ (c : Statement) (id : ℕ) (small : id < 2 ^ 32) (same : c.id ≡ id) where
  -- behind the id and flags
  head_from : (flags : ℕ) (rest : List ℕ) (y : Result BulkHead StreamFault) → flags < 256 ^ 2 →
      (must BadBulk (are_bulk_flags flags) >>= λ known. if not (contains flags send_types_to_server)
      then Ok (record { own = None; rows = rest })
      else (types_at BadBulk (place_count c.query) rest >>= λ types. Ok
      (record { own = Some types.0; rows = types.1 }))) ≡ y →
      bulk_head c (little_bytes 4 id ++ (little_bytes 2 flags ++ rest)) ≡ y
  unfolding bulk_head
  head_from flags rest y fits h =
      rw (id_front c id (little_bytes 2 flags ++ rest) small same, number_front BadBulk 2 flags rest fits) h

  -- the head of a request without types
  untyped_head : (rest : List ℕ) → bulk_head c (little_bytes 4 id ++ (little_bytes 2 0 ++ rest)) ≡
      Ok (record { own = None; rows = rest })
  untyped_head rest = head_from 0 rest _ (omega arith) refl

  -- the head of a request with types
  typed_head : (f : ℕ → Value) (columns : ℕ) → place_count c.query ≡ columns → (rest : List ℕ) →
      bulk_head c (little_bytes 4 id ++
      (little_bytes 2 0x80 ++ (types_bytes f 0 columns ++ rest))) ≡
      Ok (record { own = Some (types_by f 0 columns); rows = rest })
  typed_head f columns count rest =
      head_from 0x80 (types_bytes f 0 columns ++ rest) _ (omega arith)
      (rw (count, types_front f 0 columns rest) refl)

-- ---- what is in force

-- the types that a request with this head leaves
types_after : (c : Statement) (s : StatementState) (body : List ℕ) (head : BulkHead) →
    bulk_head c body ≡ Ok head → (after c s (250 ∷ body)).types ≡ option_or head.own s.types
types_after c s body head is =
    ap (λ (r : Result BulkHead StreamFault). option_or
    (option_and_then (λ (head : BulkHead). head.own) (result_ok r)) s.types) is

-- the types of columns by the first values in some first rows
abbrev pub types_of : ℕ → List Row → ℕ → Types
types_of columns rows first = types_by (λ column. first_in_column column (take first rows)) 0 columns

-- the statement is prepared, no piece waits, and behind the first request the types are those of some first rows
pub record IsInForce (columns : ℕ) (rows : List Row) (s : StatementState) (start before : ℕ) : Type 0 where
  pub prepared : s.prepared ≡ true
  pub none : (k : ℕ) → s.long_data k ≡ None
  pub types : 0 < start → s.types ≡ Some (types_of columns rows before)

-- ---- rows of a part

-- a row of a part, among all rows
part_row : (rows : List Row) (start count k : ℕ) → k < count →
    get_or (rows_of rows start count) k [] ≡ get_or rows (start + k) []
part_row rows start count k inside = get_or-take count (drop start rows) k [] inside ∙ get_or-drop start rows k []

-- as many rows as the part counts
pub part_length : (rows : List Row) (start count : ℕ) → start + count ≤ length rows →
    length (rows_of rows start count) ≡ count
part_length rows start count within = omega (arith, length-take count (drop start rows), length-drop start rows, within)

-- rows with columns have bytes
some_bytes : (rows : List Row) → 0 < length rows → 0 < length (get_or rows 0 []) → 0 < length (rows_bytes rows ++ [])
some_bytes [] some wide = absurd (omega arith)
some_bytes ([] ∷ rows) some wide = absurd (omega arith)
some_bytes ((value ∷ row) ∷ rows) some wide = omega arith

-- ---- a request

module _ (law : WrittenCellsAreHeld) (c : Statement) (id columns : ℕ) (rows : List Row)
    (small : id < 2 ^ 32) (same : c.id ≡ id) (places : place_count c.query ≡
    columns) (some : 0 < columns)
    (arity : (k : ℕ) → k < length rows → length (get_or rows k []) ≡ columns) (all : (k : ℕ) →
    k < length rows → AllByRecursion IsHeld (get_or rows k [])) where
  -- what stands before the rows
  rows_found : (s : StatementState) (body : List ℕ) (head : BulkHead) (types : Types) → s.prepared ≡
      true → is_waiting c s ≡ false → bulk_head c body ≡ Ok head → option_or head.own s.types ≡
      Some types → 0 < length head.rows →
      bulk_rows c s body ≡ Ok (types, head.rows)
  unfolding bulk_rows
  rows_found s body head types prepared waits is found bytes =
      let counts : (place_count c.query == 0) ≡ false =
      ne_eqb (place_count c.query) 0 (λ none. absurd (omega (arith, none, places, some))) in
      let in_force : types_in_force c s head.own ≡ Ok types = rw (counts, found) refl in
      let enough = lt-ltb 0 (place_count c.query) (omega (arith, places, some)) in
      rw (prepared, waits, enough, is, in_force, lt-ltb 0 (length head.rows) bytes) refl

  -- the rows of a part that the types serve
  part_reads : (start count covers : ℕ) → start + count ≤ length rows →
      TypesServe rows (record { start = start; count = count; covers = covers }) →
      (first : ℕ → Value) → ((column : ℕ) → first column ≡
      first_in_column column (take covers rows)) →
      (k : ℕ) → k < length (rows_of rows start count) → Serves first 0 (get_or (rows_of rows start count) k [])
  part_reads start count covers within serve first is k inside =
      let below : k < count = omega (arith, part_length rows start count within, inside) in
      subst (λ (row : Row). Serves first 0 row) (sym (part_row rows start count k below))
      (λ j narrow some. ap (λ v. sent_type v) (is (0 + j)) ∙
      ap (λ n. sent_type (first_in_column n (take covers rows))) (omega arith) ∙
      serve (start + k) j (omega arith) (omega arith) (omega arith, narrow, some))

  -- the request of a part
  abbrev request : Typing → ℕ → ℕ → List ℕ
  request typing start count = bulk_request id columns rows start typing count

  -- its bytes behind its number, by its flags and the bytes of its types
  abbrev body_of : ℕ → List ℕ → ℕ → ℕ → List ℕ
  body_of flags types start count = little_bytes 4 id ++
      (little_bytes 2 flags ++ (types ++ (rows_bytes (rows_of rows start count) ++ [])))

  -- the bytes of a typed request
  typed_request : (start count : ℕ) → request Typed start count ≡ 250 ∷
      body_of 0x80 (types_bytes (λ column. first_in_column column (take (start + count) rows)) 0
      columns) start count
  unfolding bulk_execution
  typed_request start count = refl

  -- the bytes of an untyped one
  untyped_request : (start count : ℕ) → request Untyped start count ≡ 250 ∷ body_of 0 [] start count
  unfolding bulk_execution
  untyped_request start count = refl

  -- a payload reads as the rows of a part, and leaves the types of so many first rows in force
  abbrev Goes : StatementState → List ℕ → ℕ → ℕ → ℕ → Type 0
  Goes s payload start count covers =
      PayloadReadsAs c s payload (map (map held) (rows_of rows start count)) ×
      IsInForce columns rows (after c s payload) (start + count) covers

  -- a request with these types of its own, or none
  body_goes : (s : StatementState) (body : List ℕ) (start count before covers : ℕ)
      (own : Option Types) → IsInForce columns rows s start before → 0 < count →
      start + count ≤ length rows →
      TypesServe rows (record { start = start; count = count; covers = covers }) →
      bulk_head c body ≡ Ok (record {
        own = own;
        rows = rows_bytes (rows_of rows start count) ++
            [];
      }) → option_or own s.types ≡ Some (types_of columns rows covers) →
      Goes s (250 ∷ body) start count covers
  body_goes s body start count before covers own in_force any within serve is found =
      let part : List Row = rows_of rows start count in
      let long : length part ≡ count = part_length rows start count within in
      let row_at_start : get_or part 0 [] ≡ get_or rows (start + 0) [] = part_row rows start count 0 any in
      let wide : length (get_or part 0 []) ≡ columns = ap (λ (row : Row). length row) row_at_start ∙
      arity (start + 0) (omega (arith, any, within)) in
      let first : ℕ → Value = λ column. first_in_column column (take covers rows) in
      let reads = rows_read law first columns some part
      (λ k inside. ap (λ (row : Row). length row)
      (part_row rows start count k (omega (arith, long, inside))) ∙
      arity (start + k) (omega (arith, long, inside, within)))
      (λ k inside. subst (λ (row : Row). AllByRecursion IsHeld row)
      (sym (part_row rows start count k (omega (arith, long, inside))))
      (all (start + k) (omega (arith, long, inside, within))))
      (part_reads start count covers within serve first (λ column. refl)) in (
        record {
          types = types_of columns rows covers;
          bytes = rows_bytes part ++ [];
          found = rows_found s body (record { own = own; rows = rows_bytes part ++ [] })
              (types_of columns rows covers) in_force.prepared (not_waiting c s in_force.none) is
              found
              (some_bytes part (omega (arith, long, any)) (omega (arith, wide, some)));
          rows = subst (λ (bytes : List ℕ). RowsAt (types_of columns rows covers) bytes
              (map (map held) part) []) (sym (append-nil (rows_bytes part))) reads;
        },
        record {
          prepared = in_force.prepared;
          none = in_force.none;
          types = λ later. types_after c s body (record { own = own; rows = rows_bytes part ++ [] }) is ∙ found;
        },
      )

  -- the request of a part that the types in force serve
  pub request_goes : (typing : Typing) (room : ℕ) (s : StatementState) (start count before : ℕ) →
      IsInForce columns rows s start before → 0 < count → start + count ≤ length rows →
      PartFits room columns rows start typing count →
      TypesServe rows (record {
        start = start;
        count = count;
        covers =
            covered typing (start + count) before;
      }) →
      Goes s (request typing start count) start count (covered typing (start + count) before)
  request_goes Typed room s start count before in_force any within fits serve =
      let first : ℕ → Value = λ column. first_in_column column (take (start + count) rows) in
      subst (λ (payload : List ℕ). Goes s payload start count (start + count)) (sym (typed_request start count))
      (body_goes s (body_of 0x80 (types_bytes first 0 columns) start count) start count before
      (start + count) (Some (types_of columns rows (start + count))) in_force any within serve
      (typed_head c id small same first columns places (rows_bytes (rows_of rows start count) ++ [])) refl)
  request_goes Untyped room s start count before in_force any within fits serve =
      subst (λ (payload : List ℕ). Goes s payload start count before) (sym (untyped_request start count))
      (body_goes s (body_of 0 [] start count) start count before before None in_force any within serve
      (untyped_head c id small same (rows_bytes (rows_of rows start count) ++ [])) (in_force.types fits.0))
