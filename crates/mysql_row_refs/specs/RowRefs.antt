-- Rows that borrow their payloads, and their reader.
-- MySQL: Client/Server Protocol, "Text Resultset Row" and "Binary Protocol Resultset Row".
use Rattle.std.specs.Prelude.{◌≡◌, ◌==◌, ℕ, List, length, map, true, Result, Ok, Err, if◌then◌else◌}
use Rattle.std.specs.Borrow.{Fml, MutBor}
use Rattle.std.specs.List.{list_all}
use Rattle.std.specs.Rc.{rc_slice_items}
use Rattle.std.specs.Io.BufRead.{Rests}
use Rattle.mysql_cells.specs.declared.value.Value.{Value}
use Rattle.mysql_columns.specs.Columns.{ColumnDefinition}
use Rattle.mysql_fields.specs.Wire.{Reading}
use Rattle.mysql_rows.specs.Rows.{Row, as_row, binary_resultset_row_at, text_row_at, whole_row}
use Rattle.mysql_rows.specs.Views.{shared_columns}
use Rattle.mysql_row_refs.specs.Places.{held, is_inside}
use Rattle.mysql_row_refs.specs.contracts.reader.RowReader.{the_row}
use Rattle.mysql_row_refs.specs.declared.errors.RowError.{RowError}
use Rattle.mysql_row_refs.specs.declared.errors.RowError.TheVariants.{BytesLeft, Unreadable}
use Rattle.mysql_row_refs.specs.declared.format.RowFormat.{RowFormat}
use Rattle.mysql_row_refs.specs.declared.format.RowFormat.TheVariants.{Binary, Text}
use Rattle.mysql_row_refs.specs.declared.reader.RowReader.{RowReader}
use Rattle.mysql_row_refs.specs.declared.row_ref.RowRef.{RowRef}

-- the values of a row in this format
abbrev pub row_at : RowFormat → List ColumnDefinition → List ℕ → Reading (List Value)
row_at Text columns bytes = text_row_at columns bytes
row_at Binary columns bytes = binary_resultset_row_at columns bytes

-- what all bytes hold, or why they don't
abbrev pub with_none_left : {X : Type 0} → Reading X → Result X RowError
with_none_left (Err e) = Err (Unreadable e)
with_none_left (Ok x) = if length x.1 == 0 then Ok x.0 else Err BytesLeft

-- an answer, seen by a view
abbrev pub seen : {X Y : Type 0} → (X → Y) → Result X RowError → Result Y RowError
seen view (Ok x) = Ok (view x)
seen view (Err e) = Err e

-- the row: nothing was taken of it
abbrev pub row_ref_view : RowRef → Row
row_ref_view row = whole_row (shared_columns row.columns.now) (map (held row.payload.now) row.places.now)

-- the row whose cells lie at a reader's places in a payload
abbrev pub row_held : RowReader → List ℕ → Row
row_held reader payload = whole_row (shared_columns reader.columns) (map (held payload) reader.places.items)

-- a reader's places lie in a payload, one for each column
pub record HoldsRow (reader : RowReader) (payload : List ℕ) : Type 0 where
  pub inside : list_all (is_inside payload) reader.places.items ≡ true
  pub as_long : length reader.places.items ≡ length (rc_slice_items reader.columns)

-- the row that a payload is in this format, or why it is none
abbrev pub row_of : RowFormat → List ColumnDefinition → List ℕ → Result Row RowError
row_of format columns payload = with_none_left (as_row columns (row_at format columns payload))

-- readers of rows of the same columns in the same format
abbrev pub ReadsTheSame : RowReader → RowReader → Type 0
ReadsTheSame reader other = (shared_columns other.columns ≡ shared_columns reader.columns) ×
    (other.format ≡ reader.format)

-- once the row is gone, the reader goes on as before
abbrev pub GoesOnReading : MutBor RowReader → Fml
GoesOnReading reader = Rests the_row reader (λ after. ReadsTheSame reader.now after)
