-- Rows of a result set, as read from their payloads, and what is known of a row's cells.
-- MySQL: Client/Server Protocol, "Text Resultset Row" and "Binary Protocol Resultset Row".
-- A reading takes bytes from the front: x.0 is what was read and x.1 the bytes left; the first refusal counts.
use Rattle.std.specs.Prelude.{ℕ, ◌+◌, Bool, List, [], ◌∷◌, length, map, Option, Some, None, is_some, Ok, slice_get}
use Rattle.std.specs.Prelude.{slice_set, nat_lt, bytes_eq, if◌then◌else◌}
use Rattle.std.specs.List.{list_all, position_from}
use Rattle.std.specs.Option.{option_flatten}
use Rattle.mysql_cells.specs.declared.value.Value.{Value}
use Rattle.mysql_cells.specs.declared.value.Value.TheVariants.{NULL}
use Rattle.mysql_cells.specs.Cells.{column_cell_at, text_cell_at}
use Rattle.mysql_field_lists.specs.NullBitmap.{bitmap_len, is_null_at}
use Rattle.mysql_columns.specs.Columns.{ColumnDefinition}
use Rattle.mysql_fields.specs.Wire.{Reading, ◌>>=◌}
use Rattle.mysql_fields.specs.Forms.{bytes_at}
use Rattle.mysql_field_lists.specs.Lists.{elements_at}
use Rattle.mysql_field_constants.specs.Constants.{constant_at}

-- A text row: a cell for each column.
abbrev pub text_row_at : List ColumnDefinition → List ℕ → Reading (List Value)
text_row_at columns bytes = elements_at text_cell_at (length columns) bytes

-- A cell of a binary row: null by the bitmap, else by the column's type and flags.
abbrev pub binary_cell_at : Bool → ColumnDefinition → List ℕ → Reading Value
binary_cell_at is_null column bytes =
    if is_null then Ok (NULL, bytes) else column_cell_at (column.column_type, column.flags) bytes

-- The cells of a binary row from this place on, by a bitmap with so many bits before that of the first column.
unfoldable pub binary_cells_at : ℕ → List ℕ → ℕ → List ColumnDefinition → List ℕ → Reading (List Value)
binary_cells_at offset bitmap place [] bytes = Ok ([], bytes)
binary_cells_at offset bitmap place (column ∷ columns) bytes = do
  cell ← binary_cell_at (is_null_at offset bitmap place) column bytes
  cells ← binary_cells_at offset bitmap (place + 1) columns cell.1
  Ok (cell.0 ∷ cells.0, cells.1)

-- A binary row after its first byte: the bitmap, and the cells that aren't null.
unfoldable pub binary_row_body_at : ℕ → List ColumnDefinition → List ℕ → Reading (List Value)
binary_row_body_at offset columns bytes = do
  bitmap ← bytes_at (bitmap_len offset (length columns)) bytes
  binary_cells_at offset bitmap.0 0 columns bitmap.1

-- A binary row, whatever its first byte.
unfoldable pub binary_row_at : ℕ → List ColumnDefinition → List ℕ → Reading (List Value)
binary_row_at offset columns bytes = do
  header ← bytes_at 1 bytes
  binary_row_body_at offset columns header.1

-- A binary row of a result set: its first byte is a zero, and two bits stand before that of the first column.
unfoldable pub binary_resultset_row_at : List ColumnDefinition → List ℕ → Reading (List Value)
binary_resultset_row_at columns bytes = do
  header ← constant_at 1 0 bytes
  binary_row_body_at 2 columns header.1

-- A row: its columns, and of each cell the value, or none where that was taken.
pub record Row : Type 0 where
  pub columns : List ColumnDefinition
  pub cells : List (Option Value)

-- The row of which nothing was taken.
abbrev pub whole_row : List ColumnDefinition → List Value → Row
whole_row columns values = record { columns = columns; cells = map Some values }

-- Cells of which none was taken.
abbrev pub some_cells : Reading (List Value) → Reading (List (Option Value))
some_cells values = values >>= λ x. Ok (map Some x.0, x.1)

-- The row of the values that were read.
abbrev pub as_row : List ColumnDefinition → Reading (List Value) → Reading Row
as_row columns values = values >>= λ x. Ok (whole_row columns x.0, x.1)

-- Whether nothing was taken.
abbrev pub is_whole : Row → Bool
is_whole row = list_all is_some row.cells

-- The value in a cell: none where there is no such column, or where it was taken.
abbrev pub cell_at : Row → Option ℕ → Option Value
cell_at row None = None
cell_at row (Some index) = option_flatten (slice_get row.cells index)

-- The row with this in one cell; its columns and other cells stay.
abbrev pub with_cell : Row → ℕ → Option Value → Row
with_cell row index cell = record { columns = row.columns; cells = slice_set row.cells index cell }

-- The row after a cell was taken, where there is such a column.
abbrev pub without_cell : Row → Option ℕ → Row
without_cell row None = row
without_cell row (Some index) = with_cell row index None

-- The column of this number, if there is one.
abbrev pub column_numbered : ℕ → List ColumnDefinition → Option ℕ
column_numbered index columns = if nat_lt index (length columns) then Some index else None

-- The first column of this name, compared byte by byte.
abbrev pub column_named : List ℕ → List ColumnDefinition → Option ℕ
column_named name columns = position_from (λ column. bytes_eq column.name name) 0 columns
