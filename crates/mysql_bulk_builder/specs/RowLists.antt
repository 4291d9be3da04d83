-- Rows, without where they lie in memory.
use Rattle.std.specs.Borrow.{Bor}
use Rattle.std.specs.Prelude.{List, map}
use Rattle.mysql_cells.specs.declared.value.Value.{Value}
use Rattle.mysql_bulk_builder.specs.Cut.{Row}

-- the values behind references
abbrev pub row_in : List (Bor Value) → Row
row_in values = map (λ value. value.now) values

-- the values of each row
abbrev pub rows_in : List (Bor (List (Bor Value))) → List Row
rows_in rows = map (λ row. row_in row.now) rows
