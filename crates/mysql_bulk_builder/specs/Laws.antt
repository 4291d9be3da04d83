-- The laws of bulk executions.
use Rattle.std.specs.Prelude.{◌≡◌, ℕ, ◌<◌, true, List, length, map, get_or}
use Rattle.mysql_cells.specs.declared.value.Value.{Value}
use Rattle.mysql_cells.specs.declared.value.Value.TheVariants.{NULL}
use Rattle.mysql_bulk_builder.specs.Bulk.{all_values, column_of, have_length}

-- a column of rows of the same length, joined to one list, holds the value of each row at its place
abbrev pub ColumnsAreThoseOfRows : Type 0
ColumnsAreThoseOfRows =
    (rows : List (List Value)) (arity column : ℕ) → have_length arity rows ≡ true → column < arity
    → column_of arity (length rows) (all_values rows) column ≡ map (λ row. get_or row column NULL) rows
