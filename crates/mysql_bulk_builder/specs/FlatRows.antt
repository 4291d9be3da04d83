-- Rows in one flat list.
use Rattle.std.specs.Prelude.{ℕ, zero, suc, List, [], ◌∷◌, take, drop}
use Rattle.mysql_cells.specs.declared.value.Value.{Value}
use Rattle.mysql_bulk_builder.specs.Cut.{Row}

-- so many rows of so many values each, one after another
abbrev pub rows_from : ℕ → ℕ → List Value → List Row
rows_from zero arity values = []
rows_from (suc count) arity values = take arity values ∷ rows_from count arity (drop arity values)
