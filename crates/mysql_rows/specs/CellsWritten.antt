-- What the code of writing speaks of: rows by their cells, of which some may have been taken, and what a call answered.
-- MySQL: Client/Server Protocol, "Text Resultset Row", "Binary Protocol Resultset Row".
use Rattle.std.proofs.Common.{get_or, set}
use Rattle.std.specs.Prelude.{◌≡◌, ℕ, ◌+◌, ◌/◌, ◌%◌, ◌^◌, ◌&&◌, if◌then◌else◌, Bool, true, false, not, List, [], ◌∷◌}
use Rattle.std.specs.Prelude.{◌++◌}
use Rattle.std.specs.Prelude.{map, flat_map, zip, Option, Some, None, Result, Ok, Err, unwrap_or}
use Rattle.std.specs.declared.alloc.AllocError.{AllocError}
use Rattle.std.specs.Option.{option_and_then}
use Rattle.mysql_cells.specs.Values.{date_text, is_null, is_zero_time, time_text}
use Rattle.mysql_cells.specs.declared.value.Value.{Value}
use Rattle.mysql_cells.specs.declared.value.Value.TheVariants.{Date, Time}
use Rattle.mysql_columns.specs.Columns.{ColumnDefinition}
use Rattle.mysql_rows.specs.declared.refusal.RowRefusal.{RowRefusal}
use Rattle.mysql_rows.specs.declared.refusal.RowRefusal.TheVariants.{NoForm, Memory}
use Rattle.mysql_rows.specs.Written.{as_binary, binary_cause, binary_row, cell_in, text_cell, values_of}

-- the text of a date or a time, an all-zero time taken as positive
abbrev pub temporal_text : Value → Option (List ℕ)
temporal_text (Date year month day hour minute second micros) =
    Some (date_text year month day hour minute second micros)
temporal_text (Time negative days hours minutes seconds micros) =
    Some (time_text (negative && not (is_zero_time days hours minutes seconds micros)) days hours
    minutes seconds micros)
temporal_text value = None

-- the text cells that there are
abbrev pub text_cells : List (Option Value) → List ℕ
text_cells cells = flat_map (λ cell. unwrap_or (option_and_then text_cell cell) []) cells

-- the cells by their columns that there are
abbrev pub cells_in : List ColumnDefinition → List (Option Value) → List ℕ
cells_in columns cells = flat_map
    (λ placed. unwrap_or (option_and_then (cell_in placed.0) placed.1) []) (zip columns cells)

-- whether a cell holds NULL
abbrev pub holds_null : Option Value → Bool
holds_null None = false
holds_null (Some value) = is_null value

-- the bits of cells: two that stand for no column, and one for each
abbrev pub null_marks : List (Option Value) → List Bool
null_marks cells = false ∷ false ∷ map holds_null cells

-- bytes in which, where a cell is NULL, the bit of this number was added to the bitmap that stands from a place on
abbrev pub marked : Bool → ℕ → ℕ → List ℕ → List ℕ
marked null bitmap number bytes =
    if null then set bytes (bitmap + number / 8)
    (get_or bytes (bitmap + number / 8) 0 + 2 ^ (number % 8)) else bytes

-- A row was appended; or it was refused, by the place that speaks against it, or where none does
-- for want of memory, and nothing changed.
abbrev pub PutsRow : Option ℕ → List ℕ → List ℕ → List ℕ → Result (Unit {0}) RowRefusal → Type 0
PutsRow cause row old new (Ok _) = (cause ≡ None) × (new ≡ old ++ row)
PutsRow cause row old new (Err (NoForm place)) = (cause ≡ Some place) × (new ≡ old)
PutsRow cause row old new (Err Memory) = (cause ≡ None) × (new ≡ old)

-- a cell's value, if it wasn't taken, is what is read of it in a binary row
abbrev pub IsOwn : Option Value → Type 0
IsOwn None = Unit {0}
IsOwn (Some value) = as_binary value ≡ value

-- so is each cell's
abbrev pub AreOwn : List (Option Value) → Type 0
AreOwn cells = map as_binary (values_of cells) ≡ values_of cells

-- A binary row was appended, of which each value is read as itself. Or nothing changed: that says
-- nothing of the row, but that no cause speaks against it where memory was refused.
abbrev pub PutsOwnRow : List ColumnDefinition → List (Option Value) → List ℕ → List ℕ → Result Bool AllocError → Type 0
PutsOwnRow columns cells old new (Ok true) = (binary_cause columns cells ≡ None) ×
    (new ≡ old ++ binary_row columns (values_of cells)) × AreOwn cells
PutsOwnRow columns cells old new (Ok false) = new ≡ old
PutsOwnRow columns cells old new (Err refused) = (binary_cause columns cells ≡ None) × (new ≡ old)
