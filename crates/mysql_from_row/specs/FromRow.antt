-- What a row converts to: as one value, as so many values, or cell by cell.
-- MySQL: Client/Server Protocol, "Text Resultset Row" and "Binary Protocol Resultset Row"; rows as types of a
-- language are a form of client libraries.
use Rattle.std.specs.Prelude.{ℕ, ◌==◌, List, length, Option, Some, None, if◌then◌else◌}
use Rattle.std.specs.Option.{option_and_then}
use Rattle.mysql_cells.specs.declared.value.Value.{Value}
use Rattle.mysql_rows.specs.Rows.{Row, cell_at, column_named, column_numbered}

-- What the value in a cell converts to: none where there is no such column, where the value was taken, or where it
-- doesn't convert.
abbrev pub cell_as : {T : Type 0} → (Value → Option T) → Row → Option ℕ → Option T
cell_as converted row place = option_and_then converted (cell_at row place)

-- What the value in the cell of this number converts to.
abbrev pub numbered_as : {T : Type 0} → (Value → Option T) → Row → ℕ → Option T
numbered_as converted row number = cell_as converted row (column_numbered number row.columns)

-- What the value in the first column of this name converts to.
abbrev pub named_as : {T : Type 0} → (Value → Option T) → Row → List ℕ → Option T
named_as converted row name = cell_as converted row (column_named name row.columns)

-- What a row of so many columns converts to: none where it has other than so many.
abbrev pub of_columns : {T : Type 0} → ℕ → Row → Option T → Option T
of_columns count row x = if length row.columns == count then x else None

-- Two things, each of which has to be there.
abbrev pub both : {A B : Type 0} → Option A → Option B → Option (A × B)
both (Some a) (Some b) = Some (a, b)
both _ _ = None
