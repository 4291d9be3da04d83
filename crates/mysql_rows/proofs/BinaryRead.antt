-- The values of a binary row that was read can be written.
use Rattle.std.proofs.Common.{◌≡◌, ℕ, ◌+◌, ◌<◌, ◌==◌, Bool, true, false, List, [], ◌∷◌, length, map, drop, Option, Some}
use Rattle.std.proofs.Common.{None, Ok, Err, refl, sym, subst, ◌∙◌, ap}
use Rattle.std.specs.Prelude.{is_none, zip}
use Rattle.std.specs.List.{position_from}
use Rattle.std.specs.Option.{option_and_then}
use Rattle.std.proofs.lemmas.Bool.{eqb-true}
use Rattle.std.proofs.lemmas.List.{get_or-drop}
use Rattle.mysql_buf.specs.Bytes.{AreBytes}
use Rattle.mysql_buf.specs.FirstBytes.{first-some}
use Rattle.mysql_buf.specs.Reading.{bytes_at, first}
use Rattle.mysql_fields.specs.Wire.{Reading, ◌>>=◌, or_end}
use Rattle.mysql_field_lists.specs.NullBitmap.{bitmap_len, is_null_at}
use Rattle.mysql_cells.specs.Cells.{has_no_sign}
use Rattle.mysql_cells.specs.Values.{without_zero_sign}
use Rattle.mysql_cells.specs.declared.value.Value.{Value}
use Rattle.mysql_cells.specs.declared.value.Value.TheVariants.{NULL}
use Rattle.mysql_columns.specs.Columns.{ColumnDefinition}
use Rattle.mysql_rows.specs.RowLaws.{none_first, other_first}
use Rattle.mysql_rows.specs.Rows.{binary_cell_at, binary_cells_at, binary_resultset_row_at, binary_row_body_at}
use Rattle.mysql_rows.specs.Written.{as_binary, cell_in}
use Rattle.mysql_cells.specs.TypedCells.{ReadCellsAreWritten}
use Rattle.mysql_rows.specs.WrittenLaws.{ReadBinaryRowsAreWritten}
use Rattle.mysql_rows.proofs.BinaryBack.{after_zero}
use Rattle.mysql_rows.proofs.WholeRows.{left_is, read_is, speaks_not, with_value}

-- BYTES THAT ARE LEFT

dropped : (n : ℕ) (bytes : List ℕ) → AreBytes bytes → AreBytes (drop n bytes)
dropped n bytes are = λ i. subst (λ x. x < 256) (sym (get_or-drop n bytes i 0)) (are (n + i))

first_left : {X : Type 0} (n : ℕ) (value : List ℕ → X) (bytes : List ℕ) (found : X × List ℕ) →
    AreBytes bytes → first n value bytes ≡ Some found → AreBytes found.1
first_left n value bytes found are e =
    subst AreBytes (sym (ap (λ p. p.1) (first-some n value bytes found e).1)) (dropped n bytes are)

-- ROWS

-- what was read of a column has a cell, and is read again as it is, but an all-zero time as positive
abbrev IsReadIn : ColumnDefinition → Value → List ℕ → Type 0
IsReadIn column value rest = (is_none (cell_in column value) ≡ false) ×
    (as_binary value ≡ without_zero_sign value) × AreBytes rest

read_cell : ReadCellsAreWritten →
    (null : Bool) (column : ColumnDefinition) (bytes rest : List ℕ) (value : Value) →
    AreBytes bytes → binary_cell_at null column bytes ≡ Ok (value, rest) →
    IsReadIn column value rest
read_cell written true column bytes rest value are e =
    let value_is : NULL ≡ value = read_is NULL value bytes rest e in
    let rest_is : bytes ≡ rest = left_is NULL value bytes rest e in (
      subst (λ value. is_none (cell_in column value) ≡ false) value_is refl,
      subst (λ value. as_binary value ≡ without_zero_sign value) value_is refl,
      subst AreBytes rest_is are,
    )
read_cell written false column bytes rest value are e =
    written column.column_type (has_no_sign column.flags) bytes rest value are e

abbrev AreWritten : List ColumnDefinition → ℕ → List Value → Type 0
AreWritten columns place values =
    (position_from (λ placed. is_none (option_and_then (cell_in placed.0) placed.1)) place
    (zip columns (map Some values)) ≡ None) ×
    (map as_binary values ≡ map without_zero_sign values)

others_read : (column : ColumnDefinition) (columns : List ColumnDefinition) (place : ℕ)
    (value : Value) (read : Reading (List Value)) (values : List Value) (rest : List ℕ)
    → is_none (cell_in column value) ≡ false → as_binary value ≡ without_zero_sign value →
    ((later : List Value) (left : List ℕ) → read ≡ Ok (later, left) →
    AreWritten columns (place + 1) later)
    → (read >>= with_value value) ≡ Ok (values, rest) → AreWritten (column ∷ columns) place values
others_read column columns place value (Err error) values rest some own known e = absurd (cc)
others_read column columns place value (Ok found) values rest some own known e =
    let is : value ∷ found.0 ≡ values = read_is (value ∷ found.0) values found.1 rest e in
    let later = known found.0 found.1 refl in
    subst (AreWritten (column ∷ columns) place) is
    (speaks_not (is_none (cell_in column value)) place _ some later.0, λ i. own i ∷ later.1 i)

first_read : ReadCellsAreWritten →
    (bitmap : List ℕ) (place : ℕ) (column : ColumnDefinition) (columns : List ColumnDefinition)
    (bytes rest : List ℕ) (values : List Value) (null : Bool) (read : Reading Value)
    → AreBytes bytes → binary_cell_at null column bytes ≡ read
    → ((after : List ℕ) (later : List Value) (left : List ℕ) → AreBytes after →
    binary_cells_at 2 bitmap (place + 1) columns after ≡ Ok (later, left) →
    AreWritten columns (place + 1) later)
    → (read >>= λ (cell : Value × List ℕ). binary_cells_at 2 bitmap (place + 1) columns cell.1 >>=
    with_value cell.0) ≡ Ok (values, rest) → AreWritten (column ∷ columns) place values
first_read written bitmap place column columns bytes rest values null (Err error) are is known e = absurd (cc)
first_read written bitmap place column columns bytes rest values null (Ok found) are is known e =
    let own = read_cell written null column bytes found.1 found.0 are is in
    others_read column columns place found.0 (binary_cells_at 2 bitmap (place + 1) columns found.1)
    values rest own.0 own.1 (λ later left h. known found.1 later left own.2 h) e

read_cells : ReadCellsAreWritten →
    (bitmap : List ℕ) (place : ℕ) (columns : List ColumnDefinition) (bytes rest : List ℕ)
    (values : List Value) → AreBytes bytes → binary_cells_at 2 bitmap place columns bytes ≡
    Ok (values, rest) → AreWritten columns place values
unfolding binary_cells_at
read_cells written bitmap place [] bytes rest values are e = let is : [] ≡ values =
    read_is [] values bytes rest e in subst (AreWritten [] place) is (refl, refl)
read_cells written bitmap place (column ∷ columns) bytes rest values are e =
    first_read written bitmap place column columns bytes rest values (is_null_at 2 bitmap place)
    (binary_cell_at (is_null_at 2 bitmap place) column bytes) are refl
    (λ after later left are_left h. read_cells written bitmap (place + 1) columns after left later are_left h) e

read_body : ReadCellsAreWritten →
    (columns : List ColumnDefinition) (bytes rest : List ℕ) (values : List Value) → AreBytes bytes →
    binary_row_body_at 2 columns bytes ≡ Ok (values, rest) → AreWritten columns 0 values
unfolding binary_row_body_at
read_body written columns bytes rest values are e = by (bytes_at (bitmap_len 2 (length columns)) bytes) refl e
  where
    by : (found : Option (List ℕ × List ℕ)) → bytes_at (bitmap_len 2 (length columns)) bytes ≡
        found → (or_end found >>= λ (bitmap : List ℕ × List ℕ). binary_cells_at 2 bitmap.0 0 columns
        bitmap.1) ≡ Ok (values, rest) → AreWritten columns 0 values
    by None is e = absurd (cc)
    by (Some found) is e = read_cells written found.0 0 columns found.1 rest values
        (first_left (bitmap_len 2 (length columns)) _ bytes found are is) e

pub read_binary_rows_are_written : ReadCellsAreWritten → ReadBinaryRowsAreWritten
read_binary_rows_are_written written columns [] rest values are e = let none = none_first columns in absurd (cc)
read_binary_rows_are_written written columns (b ∷ bytes) rest values are e = by (b == 0) refl
  where
    by : (zero_byte : Bool) → (b == 0) ≡ zero_byte → AreWritten columns 0 values
    by true is = read_body written columns bytes rest values (dropped 1 (b ∷ bytes) are)
        (sym (ap (λ n. binary_resultset_row_at columns (n ∷ bytes)) (eqb-true b 0 is) ∙
        after_zero columns bytes) ∙ e)
    by false is = let other = other_first columns b bytes is in absurd (cc)
