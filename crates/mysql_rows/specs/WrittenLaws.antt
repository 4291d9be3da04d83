-- What holds of rows that are written: they are read again, the values of a row that was read are
-- written again, and how a row begins. MySQL: Client/Server Protocol, "Text Resultset Row", "Binary
-- Protocol Resultset Row"; of the first byte of a reply: "ERR_Packet", "EOF_Packet".
use Rattle.std.specs.Prelude.{◌≡◌, ◌≢◌, ℕ, ◌^◌, ◌≤◌, List, ◌∷◌, ◌++◌, length, map, Some, None, Ok}
use Rattle.std.specs.List.{AllByRecursion}
use Rattle.mysql_buf.specs.Bytes.{AreBytes}
use Rattle.mysql_cells.specs.Values.{FitsFields}
use Rattle.mysql_cells.specs.Values.{without_zero_sign}
use Rattle.mysql_cells.specs.declared.value.Value.{Value}
use Rattle.mysql_columns.specs.Columns.{ColumnDefinition}
use Rattle.mysql_rows.specs.Rows.{binary_resultset_row_at, text_row_at}
use Rattle.mysql_rows.specs.Written.{as_binary, as_text, binary_cause, binary_row, text_cause, text_row}

-- A text row of values that all have a text cell is read again, whatever follows it: each value as its text.
abbrev pub TextRowsReadBack : Type 0
TextRowsReadBack =
    (columns : List ColumnDefinition) (values : List Value) (rest : List ℕ) → length columns ≡
    length values → AllByRecursion (λ value. FitsFields value) values →
    text_cause (map Some values) ≡ None
    → text_row_at columns (text_row values ++ rest) ≡ Ok (map as_text values, rest)

-- A binary row of values that all have a cell by their columns is read again, whatever follows it:
-- each value as itself, but an unsigned number below 2 ^ 63 as Int, and an all-zero time as
-- positive.
abbrev pub BinaryRowsReadBack : Type 0
BinaryRowsReadBack =
    (columns : List ColumnDefinition) (values : List Value) (rest : List ℕ) → length columns ≡
    length values → AllByRecursion (λ value. FitsFields value) values →
    binary_cause columns (map Some values) ≡ None
    → binary_resultset_row_at columns (binary_row columns values ++ rest) ≡ Ok (map as_binary values, rest)

-- The values of a text row that was read have text cells, and are read again as they are.
abbrev pub ReadTextRowsAreWritten : Type 0
ReadTextRowsAreWritten =
    (columns : List ColumnDefinition) (bytes rest : List ℕ) (values : List Value) →
    text_row_at columns bytes ≡ Ok (values, rest) → (text_cause (map Some values) ≡ None) ×
    (map as_text values ≡ values)

-- The values of a binary row that was read have cells by their columns, and are read again as they
-- are, but an all-zero time as positive.
abbrev pub ReadBinaryRowsAreWritten : Type 0
ReadBinaryRowsAreWritten =
    (columns : List ColumnDefinition) (bytes rest : List ℕ) (values : List Value) → AreBytes bytes →
    binary_resultset_row_at columns bytes ≡ Ok (values, rest)
    → (binary_cause columns (map Some values) ≡ None) × (map as_binary values ≡ map without_zero_sign values)

-- A text row never begins with ff, and with fe only where it has 2 ^ 24 bytes or more.
abbrev pub TextRowsBegin : Type 0
TextRowsBegin = (values : List Value) (first : ℕ) (others : List ℕ) → text_row values ≡ first ∷
    others → (first ≢ 255) × (first ≡ 254 → 2 ^ 24 ≤ length (text_row values))

-- A binary row begins with a zero.
abbrev pub BinaryRowsBegin : Type 0
BinaryRowsBegin = (columns : List ColumnDefinition) (values : List Value) (first : ℕ)
    (others : List ℕ) → binary_row columns values ≡ first ∷ others → first ≡ 0
