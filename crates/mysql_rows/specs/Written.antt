-- Rows of a result set, as a server writes them, and what speaks against a row. MySQL:
-- Client/Server Protocol, "Text Resultset Row", "Binary Protocol Resultset Row", "Null-Bitmap",
-- "Binary Protocol Value".
use Rattle.std.specs.Prelude.{ℕ, zero, suc, ◌+◌, ◌*◌, ◌/◌, Bool, false, if◌then◌else◌}
use Rattle.std.specs.Prelude.{List, [], ◌∷◌, ◌++◌, length, map, drop, Option, is_none, unwrap_or}
use Rattle.std.specs.Prelude.{zip, filter_map, flat_map}
use Rattle.std.specs.Fmt.{signed_decimal}
use Rattle.std.specs.List.{position_from, range_with_len}
use Rattle.std.specs.Option.{option_and_then, option_map}
use Rattle.mysql_buf.specs.Writing.{lenenc_str}
use Rattle.mysql_bytes.specs.declared.content.Content.{Content}
use Rattle.mysql_bytes.specs.declared.content.Content.TheVariants as content
use Rattle.mysql_cells.specs.CellLaws.{read_back}
use Rattle.mysql_cells.specs.Cells.{has_no_sign}
use Rattle.mysql_cells.specs.TypedCells.{typed_cell}
use Rattle.mysql_cells.specs.Values.{content_of, is_null}
use Rattle.mysql_cells.specs.declared.value.Value.{Value}
use Rattle.mysql_cells.specs.declared.value.Value.TheVariants.{NULL, Bytes}
use Rattle.mysql_columns.specs.Columns.{ColumnDefinition}

-- TEXT

-- a content's cell in a text row: fb for NULL, else a text after its length, of a number its digits
abbrev pub content_cell : Content → List ℕ
content_cell content.Null = 251 ∷ []
content_cell (content.Number z) = lenenc_str (signed_decimal z)
content_cell (content.Bytes bytes) = lenenc_str bytes

-- what that is read as
abbrev pub content_text : Content → Value
content_text content.Null = NULL
content_text (content.Number z) = Bytes (signed_decimal z)
content_text (content.Bytes bytes) = Bytes bytes

-- the cell of a value in a text row; a float has none
abbrev pub text_cell : Value → Option (List ℕ)
text_cell value = option_map content_cell (content_of value)

-- what a value's text cell is read as: NULL, or the bytes of its text; a float, which has no cell, stays
abbrev pub as_text : Value → Value
as_text value = unwrap_or (option_map content_text (content_of value)) value

-- a text row: the cells one after another
abbrev pub text_row : List Value → List ℕ
text_row values = flat_map (λ value. unwrap_or (text_cell value) []) values

-- BINARY

-- what a value's binary cell is read as: the value, but an unsigned number below 2 ^ 63 as Int, and
-- an all-zero time as positive
abbrev pub as_binary : Value → Value
as_binary = read_back

-- the cell of a value in a binary row by its column's type and flags, where there is one; NULL, of
-- which its bit tells, takes no bytes
abbrev pub cell_in : ColumnDefinition → Value → Option (List ℕ)
cell_in column value = typed_cell column.column_type (has_no_sign column.flags) value

-- so many bits as a number, the first one the lowest; zeros where there are no more
unfoldable pub bits_number : ℕ → List Bool → ℕ
bits_number zero marks = 0
bits_number (suc count) [] = 0
bits_number (suc count) (mark ∷ marks) = (if mark then 1 else 0) + 2 * bits_number count marks

-- eight bits to a byte
unfoldable pub bits_bytes : List Bool → List ℕ
bits_bytes marks = map (λ k. bits_number 8 (drop (8 * k) marks)) (range_with_len 0 ((length marks + 7) / 8))

-- the bitmap of a row: two bits that stand for no column, and one for each value, 1 for NULL
abbrev pub row_bitmap : List Value → List ℕ
row_bitmap values = bits_bytes (false ∷ false ∷ map is_null values)

-- the cells by their columns, one after another
abbrev pub binary_cells : List ColumnDefinition → List Value → List ℕ
binary_cells columns values = flat_map (λ placed. unwrap_or (cell_in placed.0 placed.1) []) (zip columns values)

-- a binary row: a zero, the bitmap, the cells that aren't NULL
abbrev pub binary_row : List ColumnDefinition → List Value → List ℕ
binary_row columns values = 0 ∷ (row_bitmap values ++ binary_cells columns values)

-- WHAT SPEAKS AGAINST A ROW

-- the values of cells, without those that were taken
abbrev pub values_of : List (Option Value) → List Value
values_of cells = filter_map (λ cell. cell) cells

-- the least place whose value was taken, or has no cell in a text row
abbrev pub text_cause : List (Option Value) → Option ℕ
text_cause cells = position_from (λ cell. is_none (option_and_then text_cell cell)) 0 cells

-- the least place whose value was taken, or has no cell by its column
abbrev pub binary_cause : List ColumnDefinition → List (Option Value) → Option ℕ
binary_cause columns cells =
    position_from (λ placed. is_none (option_and_then (cell_in placed.0) placed.1)) 0
    (zip columns cells)
