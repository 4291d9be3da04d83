-- Rows of a bulk request read back, by types that serve them.
use Rattle.std.proofs.Common.{◌≡◌, ℕ, suc, ◌+◌, ◌<◌, ◌==◌, Bool, true, false, List, [], ◌∷◌, ◌++◌, length, get_or, map}
use Rattle.std.proofs.Common.{Some, Ok, refl, sym, ◌∙◌, ap, arith, append_assoc}
use Rattle.std.specs.Prelude.{if◌then◌else◌}
use Rattle.std.specs.List.{AllByRecursion, flat_map, range_with_len}
use Rattle.std.proofs.lemmas.Grind.{flat_map-append}
use Rattle.std.proofs.lemmas.List.{map-append}
use Rattle.mysql_values.specs.Values.{FitsFields}
use Rattle.mysql_values.specs.Cells.{cell, is_unsigned, type_number}
use Rattle.mysql_values.specs.Content.{Content}
use Rattle.mysql_values.specs.Content.TheVariants as content
use Rattle.mysql_values.specs.Value.{Value}
use Rattle.mysql_values.specs.Value.TheVariants.{NULL, Bytes, Int, UInt, Float, Double, Date, Time}
use Rattle.mysql_values.specs.Values.{content_of}
use Rattle.mysql_bulk_builder.specs.Bulk.{all_values, param_value_bytes, param_value_of}
use Rattle.mysql_bulk_builder.specs.Cut.{Row}
use Rattle.mysql_bulk_builder.specs.ValueTypes.{is_null, sent_type}
use Rattle.mysql_receive.specs.declared.fault.StreamFault.TheVariants.{BadBulk}
use Rattle.mysql_receive.specs.declared.param_type.ParamType.{ParamType}
use Rattle.mysql_receive.specs.Laws.{WrittenCellsAreHeld}
use Rattle.mysql_receive.specs.Layout.{Types}
use Rattle.mysql_receive.specs.Reading.{RowsAt, column_at, columns_at, row_at}
use Rattle.mysql_command_rules.proofs.FieldsRead.{byte_front}
use Rattle.mysql_command_rules.proofs.Held.{held}

-- the type that a value is sent by, as it is read
abbrev pub read_type : Value → ParamType
read_type value = record { number = type_number value; unsigned = is_unsigned value }

-- a type by its number and its flags
by_sent : ℕ × ℕ → ParamType
by_sent sent = record { number = sent.0; unsigned = sent.1 == 128 }

-- a flag says whether there is no sign
is_flag : (b : Bool) → ((if b then 0x80 else 0) == 128) ≡ b
is_flag true = refl
is_flag false = refl

-- a type by its number and whether it has no sign
typed_as : ℕ → Bool → ParamType
typed_as number unsigned = record { number = number; unsigned = unsigned }

-- a value's type, by what is sent of it
sent_as : (value : Value) → by_sent (sent_type value) ≡ read_type value
unfolding by_sent typed_as
sent_as value = ap (λ b. typed_as (type_number value) b) (is_flag (is_unsigned value))

-- values that are sent by one type are read by one
same_type : (a b : Value) → sent_type a ≡ sent_type b → read_type a ≡ read_type b
same_type a b same = sym (sent_as a) ∙ ap by_sent same ∙ sent_as b

-- the types of columns, by a value for each
abbrev pub types_by : (ℕ → Value) → ℕ → ℕ → Types
types_by f from columns = map (λ column. read_type (f column)) (range_with_len from columns)

-- a value that can be read back
abbrev pub IsHeld : Value → Type 0
IsHeld value = FitsFields value × (content_of value ≡ Some (held value))

-- the bytes of a row
abbrev pub row_bytes : Row → List ℕ
row_bytes row = flat_map param_value_bytes (map param_value_of row)

-- the bytes of rows
abbrev pub rows_bytes : List Row → List ℕ
rows_bytes rows = row_bytes (all_values rows)

-- the values of a row that are sent by the type of the value that stands for their column
abbrev pub Serves : (ℕ → Value) → ℕ → Row → Type 0
Serves f from row = (j : ℕ) → j < length row → is_null (get_or row j NULL) ≡ false →
    sent_type (f (from + j)) ≡ sent_type (get_or row j NULL)

-- the bytes of rows are those of the first, and of the others
pub rows_split : (row : Row) (rows : List Row) → rows_bytes (row ∷ rows) ≡ row_bytes row ++ rows_bytes rows
rows_split row rows = ap (λ l. flat_map param_value_bytes l)
    (map-append param_value_of row (all_values rows)) ∙
    flat_map-append param_value_bytes (map param_value_of row)
    (map param_value_of (all_values rows))

-- a column of nothing
null_here : (t : ParamType) (rest : List ℕ) → column_at t (1 ∷ rest) ≡ Ok (content.Null, rest)
null_here t rest = rw (byte_front BadBulk 1 rest) refl

module _ (law : WrittenCellsAreHeld) where
  -- a column of a value, by its type
  value_here : (t : ParamType) (value : Value) (meant : Content) (rest : List ℕ) → t ≡
      read_type value → FitsFields value → content_of value ≡ Some meant →
      column_at t (0 ∷ (cell value ++ rest)) ≡ Ok (meant, rest)
  value_here t value meant rest is fits means =
      rw (byte_front BadBulk 0 (cell value ++ rest), is) (law BadBulk value meant rest fits means)

  -- a column, by a type that serves its value
  one_column : (t : ParamType) (value : Value) (rest : List ℕ) →
      (is_null value ≡ false → t ≡ read_type value) → IsHeld value →
      column_at t (param_value_bytes (param_value_of value) ++ rest) ≡ Ok (held value, rest)
  one_column t NULL rest same is = null_here t rest
  one_column t (Bytes bytes) rest same is = value_here t (Bytes bytes) (held (Bytes bytes)) rest (same refl) is.0 is.1
  one_column t (Int z) rest same is = value_here t (Int z) (held (Int z)) rest (same refl) is.0 is.1
  one_column t (UInt n) rest same is = value_here t (UInt n) (held (UInt n)) rest (same refl) is.0 is.1
  one_column t (Float bits) rest same is = value_here t (Float bits) (held (Float bits)) rest (same refl) is.0 is.1
  one_column t (Double bits) rest same is = value_here t (Double bits) (held (Double bits)) rest (same refl) is.0 is.1
  one_column t (Date year month day hour minute second micros) rest same is =
      value_here t (Date year month day hour minute second micros)
      (held (Date year month day hour minute second micros)) rest (same refl) is.0 is.1
  one_column t (Time negative days hours minutes seconds micros) rest same is =
      value_here t (Time negative days hours minutes seconds micros)
      (held (Time negative days hours minutes seconds micros)) rest (same refl) is.0 is.1

  -- the columns of a row from one on
  columns_read : (f : ℕ → Value) (from : ℕ) (row : Row) (rest : List ℕ) →
      AllByRecursion IsHeld row → Serves f from row →
      columns_at (types_by f from (length row)) (row_bytes row ++ rest) ≡ Ok (map held row, rest)
  unfolding columns_at
  columns_read f from [] rest all serve = refl
  columns_read f from (value ∷ row) rest all serve =
      let here : is_null value ≡ false → read_type (f from) ≡ read_type value =
      λ some. ap (λ n. read_type (f n)) (omega arith) ∙ same_type (f (from + 0)) value (serve 0 (omega arith) some) in
      let next : Serves f (from + 1) row =
      λ j inside some. ap (λ n. sent_type (f n)) (omega arith) ∙
      serve (suc j) (omega arith) some in
      rw (
        append_assoc (param_value_bytes (param_value_of value)) (row_bytes row) rest,
        one_column (read_type (f from)) value (row_bytes row ++ rest) here all.0,
        columns_read f (from + 1) row rest all.1 next,
      ) refl

  -- a row, by types that serve it
  row_read : (f : ℕ → Value) (row : Row) (rest : List ℕ) → 0 < length row →
      AllByRecursion IsHeld row → Serves f 0 row →
      row_at (types_by f 0 (length row)) (row_bytes row ++ rest) ≡ Ok (map held row, rest)
  row_read f [] rest some all serve = absurd (omega arith)
  row_read f (value ∷ row) rest some all serve = columns_read f 0 (value ∷ row) rest all serve

  -- rows read back as their contents
  pub rows_read : (f : ℕ → Value) (columns : ℕ) → 0 < columns → (rows : List Row) →
      ((k : ℕ) → k < length rows → length (get_or rows k []) ≡ columns) →
      ((k : ℕ) → k < length rows → AllByRecursion IsHeld (get_or rows k []))
      → ((k : ℕ) → k < length rows → Serves f 0 (get_or rows k [])) →
      RowsAt (types_by f 0 columns) (rows_bytes rows) (map (map held) rows) []
  rows_read f columns some [] arity all serve = refl
  rows_read f columns some (row ∷ rows) arity all serve =
      let as_wide : length row ≡ columns = arity 0 (omega arith) in (
        rows_bytes rows,
        ap (λ l. row_at (types_by f 0 columns) l) (rows_split row rows)
            ∙ ap (λ n. row_at (types_by f 0 n) (row_bytes row ++ rows_bytes rows)) (sym as_wide)
            ∙ row_read f row (rows_bytes rows) (omega arith) (all 0 (omega arith)) (serve 0 (omega arith)),
        rows_read f columns some rows (λ k inside. arity (suc k) (omega arith))
            (λ k inside. all (suc k) (omega arith)) (λ k inside. serve (suc k) (omega arith)),
      )
