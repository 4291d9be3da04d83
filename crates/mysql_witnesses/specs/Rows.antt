-- What the definitions of rows exclude. MySQL: Client/Server Protocol, "Text Resultset Row", "Binary
-- Protocol Resultset Row", "Null-Bitmap", "EOF_Packet".
use Rattle.std.specs.Prelude.{◌≡◌, ℕ, ◌^◌, true, List, [], ◌∷◌, Some, Ok, Err, slice_get}
use Rattle.mysql_cells.specs.declared.value.Value.TheVariants.{NULL, UInt}
use Rattle.mysql_columns.specs.Columns.{ColumnDefinition}
use Rattle.mysql_row_refs.specs.RowRefs.{row_of}
use Rattle.mysql_row_refs.specs.StoredRows.{no_rows, under, with_row}
use Rattle.mysql_row_refs.specs.declared.errors.RowError.TheVariants.{BytesLeft}
use Rattle.mysql_row_refs.specs.declared.format.RowFormat.TheVariants.{Text}
use Rattle.mysql_rows.specs.CellsWritten.{PutsOwnRow}
use Rattle.mysql_rows.specs.Rows.{Row}
use Rattle.mysql_rows.specs.Written.{row_bitmap, text_row}

-- Of two cells that are NULL the bits 2 and 3 are set: 0c. Excluded: a bitmap that is one bit off.
-- MySQL: Client/Server Protocol, "Null-Bitmap".
abbrev pub BitsBeginAtTwo : Type 0
BitsBeginAtTwo = row_bitmap (NULL ∷ NULL ∷ []) ≡ 0x0c ∷ []

-- A cell that is NULL is fb in a text row. Excluded: 00, an empty text.
-- MySQL: Client/Server Protocol, "Text Resultset Row".
abbrev pub NullIsFb : Type 0
NullIsFb = text_row (NULL ∷ []) ≡ 0xfb ∷ []

-- A number without a sign that fits one with it is read with its sign, so that it isn't put where
-- each value has to be read as itself. Excluded: a writer that puts UInt from 2^62 on as its own.
-- MySQL: Client/Server Protocol, "Binary Protocol Value".
abbrev pub SmallUnsignedNumbersAreReadAsInt : Type 0
SmallUnsignedNumbersAreReadAsInt = (columns : List ColumnDefinition) (old new : List ℕ) →
    PutsOwnRow columns (Some (UInt (2 ^ 62)) ∷ []) old new (Ok true) → ⊥

-- A byte behind a row's last cell makes it no row. Excluded: a reader that passes over it.
-- MySQL: Client/Server Protocol, "Text Resultset Row".
abbrev pub NoByteStandsBehindARow : Type 0
NoByteStandsBehindARow = (column : ColumnDefinition) →
    row_of Text (column ∷ []) (0xfb ∷ 0 ∷ []) ≡ Err BytesLeft

-- Of two rows that are kept the second is the one that was kept second. Excluded: one whose payload
-- begins where the first one's does. C API, mysql_store_result().
abbrev pub KeptRowsStandApart : Type 0
KeptRowsStandApart = (columns : List ColumnDefinition) (first second : Row) →
    slice_get (with_row (with_row (no_rows columns) first) second).rows 1 ≡ Some (under columns second)
