-- The laws of cells: their lengths, and that a written cell is read back, whatever follows it.
-- MySQL: Client/Server Protocol, "Binary Protocol Value".
use Rattle.std.specs.Prelude.{◌≡◌, List, ◌++◌, ℕ, length, Ok}
use Rattle.mysql_cells.specs.declared.value.Value.{Value}
use Rattle.mysql_cells.specs.declared.value.Value.TheVariants.{NULL, Bytes, Int, UInt, Float, Double, Date, Time}
use Rattle.mysql_cells.specs.Values.{FitsFields}
use Rattle.mysql_cells.specs.Cells.{cell, bin_len, type_number, is_unsigned, unsigned_value, cell_at}
use Rattle.mysql_cells.specs.Values.{content_of, without_zero_sign}

-- A cell has the length that is counted for it.
abbrev pub CellLength : Type 0
CellLength = (value : Value) → length (cell value) ≡ bin_len value

-- What a value's cell reads as by the value's own type: the value, but an unsigned number below 2 ^
-- 63 as Int, and an all-zero time as positive.
abbrev pub read_back : Value → Value
read_back NULL = NULL
read_back (Bytes bytes) = Bytes bytes
read_back (Int z) = Int z
read_back (UInt n) = unsigned_value n
read_back (Float bits) = Float bits
read_back (Double bits) = Double bits
read_back (Date year month day hour minute second micros) = Date year month day hour minute second micros
read_back (Time negative days hours minutes seconds micros) =
    without_zero_sign (Time negative days hours minutes seconds micros)

-- A value's cell is read as that, whatever follows it.
abbrev pub CellsReadBack : Type 0
CellsReadBack = (value : Value) (rest : List ℕ) → FitsFields value →
    cell_at (type_number value) (is_unsigned value) (cell value ++ rest) ≡
    Ok (read_back value, rest)

-- And that means the same.
abbrev pub ReadBackMeansTheSame : Type 0
ReadBackMeansTheSame = (value : Value) → content_of (read_back value) ≡ content_of value
