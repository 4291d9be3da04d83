-- Words of the crate's own body: cells of a row that are read as themselves, and a row's cells as they are written.
-- MySQL: Client/Server Protocol, "Text Resultset Row" and "Binary Protocol Value".
use Rattle.std.specs.Prelude.{◌≡◌, List, ℕ, ◌++◌, map, Bool, true, false, if◌then◌else◌, Option, Some, None, Result, Ok}
use Rattle.std.specs.Prelude.{Err}
use Rattle.std.specs.declared.alloc.AllocError.{AllocError}
use Rattle.mysql_cells.specs.Values.{FitsFields}
use Rattle.mysql_cells.specs.declared.value.Value.{Value}
use Rattle.mysql_rows.specs.Rows.{Row}
use Rattle.mysql_rows.specs.Written.{as_binary, as_text, binary_cause, binary_row, text_cause, text_row, values_of}

-- A cell whose value fits its fields, if it wasn't taken.
abbrev pub FitsCell : Option Value → Type 0
FitsCell None = Unit {0}
FitsCell (Some value) = FitsFields value

-- A cell of a text row whose value is read as itself, if it wasn't taken.
abbrev pub IsOwnText : Option Value → Type 0
IsOwnText None = Unit {0}
IsOwnText (Some value) = as_text value ≡ value

-- What the cells of values are read as, in binary or as text.
abbrev pub as_read : Bool → List Value → List Value
as_read true values = map as_binary values
as_read false values = map as_text values

-- The least place of a row whose cell has no form, or was taken.
abbrev pub cause_in : Bool → Row → Option ℕ
cause_in binary row = if binary then binary_cause row.columns row.cells else text_cause row.cells

abbrev pub bytes_in : Bool → Row → List ℕ
bytes_in binary row =
    if binary then binary_row row.columns (values_of row.cells) else text_row (values_of row.cells)

-- The cells of a row, each of which has a form and is read as itself, were appended; or nothing was.
abbrev pub WritesOwnCells : Bool → Row → Result Bool AllocError → List ℕ → List ℕ → Type 0
WritesOwnCells binary row (Ok true) before after = (cause_in binary row ≡ None) ×
    (after ≡ before ++ bytes_in binary row) × (as_read binary (values_of row.cells) ≡ values_of row.cells)
WritesOwnCells binary row (Ok false) before after = after ≡ before
WritesOwnCells binary row (Err refused) before after = after ≡ before
