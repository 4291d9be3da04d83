-- Cells by a type that is agreed on, a column's or a parameter's, in place of the value's own; and
-- what is read of one that was written so. MySQL: Client/Server Protocol, "Binary Protocol Value".
use Rattle.std.specs.Prelude.{◌≡◌, ℕ, ℤ, pos, negsuc, ◌-◌, ◌*◌, ◌^◌, Bool, true, false, if◌then◌else◌, List, []}
use Rattle.std.specs.Prelude.{◌++◌, nat_lt, Option, Some, None, Ok, is_none, unwrap_or}
use Rattle.std.specs.Int.{Width, w8, w16, w32, w64, cast_unsigned}
use Rattle.std.specs.Option.{option_and_then}
use Rattle.byteorder.specs.Endian.{little_bytes}
use Rattle.mysql_buf.specs.Bytes.{AreBytes}
use Rattle.mysql_buf.specs.Writing.{lenenc_str}
use Rattle.mysql_const.specs.ColumnTypes.{column_type_number}
use Rattle.mysql_const.specs.declared.column_type.ColumnType.{ColumnType}
use Rattle.mysql_cells.specs.Values.{FitsFields}
use Rattle.mysql_cells.specs.CellLaws.{read_back}
use Rattle.mysql_cells.specs.Cells.{cell, cell_at, date_cell, form, time_cell}
use Rattle.mysql_cells.specs.Values.{is_null, without_zero_sign}
use Rattle.mysql_cells.specs.declared.cell_form.CellForm.{CellForm}
use Rattle.mysql_cells.specs.declared.cell_form.CellForm.TheVariants.{Whole1, Whole2, Whole4, Whole8, FloatBits}
use Rattle.mysql_cells.specs.declared.cell_form.CellForm.TheVariants.{DoubleBits, Counted, DateAndTime, Duration}
use Rattle.mysql_cells.specs.declared.typed_cell.Cell.{Cell}
use Rattle.mysql_cells.specs.declared.typed_cell.Cell.TheVariants as held
use Rattle.mysql_cells.specs.declared.value.Value.{Value}
use Rattle.mysql_cells.specs.declared.value.Value.TheVariants.{Bytes, Int, UInt, Float, Double, Date, Time}

-- whether a number is one of so many bits, without a sign or with one
abbrev pub in_range : ℕ → Bool → ℤ → Bool
in_range n true (pos z) = nat_lt z (2 ^ n)
in_range n true (negsuc z) = false
in_range n false (pos z) = nat_lt z (2 ^ (n - 1))
in_range n false (negsuc z) = nat_lt z (2 ^ (n - 1))

-- a number of so many bytes in two's complement, its lowest byte first
abbrev pub number_cell : ℕ → Width → Bool → ℤ → Option (List ℕ)
number_cell n w unsigned z = if in_range (8 * n) unsigned z then Some (little_bytes n (cast_unsigned w z)) else None

-- the number that a value is, if it is a whole one
abbrev pub whole_number : Value → Option ℤ
whole_number (Int z) = Some z
whole_number (UInt n) = Some (pos n)
whole_number value = None

-- the cell of a whole number
abbrev pub whole_cell : ℕ → Width → Bool → Value → Option (List ℕ)
whole_cell n w unsigned value = option_and_then (number_cell n w unsigned) (whole_number value)

-- the cell of a value that isn't NULL, by the form of the type's cells and whether its numbers have no sign
abbrev pub some_cell : CellForm → Bool → Value → Option (List ℕ)
some_cell Whole1 unsigned value = whole_cell 1 w8 unsigned value
some_cell Whole2 unsigned value = whole_cell 2 w16 unsigned value
some_cell Whole4 unsigned value = whole_cell 4 w32 unsigned value
some_cell Whole8 unsigned value = whole_cell 8 w64 unsigned value
some_cell FloatBits unsigned (Float float) = Some (little_bytes 4 float)
some_cell DoubleBits unsigned (Double double) = Some (little_bytes 8 double)
some_cell Counted unsigned (Bytes bytes) = Some (lenenc_str bytes)
some_cell DateAndTime unsigned (Date year month day hour minute second micros) =
    Some (date_cell year month day hour minute second micros)
some_cell Duration unsigned (Time negative days hours minutes seconds micros) =
    Some (time_cell negative days hours minutes seconds micros)
some_cell form unsigned value = None

-- the cell of a value, where there is one; NULL, of which a bit tells, takes no bytes in whatever form
abbrev pub binary_cell : CellForm → Bool → Value → Option (List ℕ)
binary_cell form unsigned value = if is_null value then Some [] else some_cell form unsigned value

-- the cell of a value by a type and its sign
abbrev pub typed_cell : ColumnType → Bool → Value → Option (List ℕ)
typed_cell column_type unsigned value = binary_cell (form column_type) unsigned value

-- the bytes that a cell in code stands for
abbrev pub cell_bytes : Cell → List ℕ
cell_bytes held.Empty = []
cell_bytes (held.One number) = little_bytes 1 number
cell_bytes (held.Two number) = little_bytes 2 number
cell_bytes (held.Four number) = little_bytes 4 number
cell_bytes (held.Eight number) = little_bytes 8 number
cell_bytes (held.Own value) = cell value.now

-- A cell that was written by a type is read by it, whatever follows: as the value, but an unsigned
-- number below 2 ^ 63 as Int, and an all-zero time as positive.
abbrev pub TypedCellsReadBack : Type 0
TypedCellsReadBack =
    (column_type : ColumnType) (unsigned : Bool) (value : Value) (rest : List ℕ) → FitsFields value →
    is_null value ≡ false → is_none (some_cell (form column_type) unsigned value) ≡ false
    → cell_at (column_type_number column_type) unsigned
    (unwrap_or (some_cell (form column_type) unsigned value) [] ++ rest) ≡ Ok (read_back value, rest)

-- A value that was read by a type has a cell by it, and is read again as it is, but an all-zero time
-- as positive. What is left are bytes.
abbrev pub ReadCellsAreWritten : Type 0
ReadCellsAreWritten =
    (column_type : ColumnType) (unsigned : Bool) (bytes rest : List ℕ) (value : Value) → AreBytes bytes →
    cell_at (column_type_number column_type) unsigned bytes ≡ Ok (value, rest)
    → (is_none (typed_cell column_type unsigned value) ≡ false) × (read_back value ≡ without_zero_sign value) ×
    AreBytes rest
