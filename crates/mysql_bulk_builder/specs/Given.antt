-- The rows and sets handed to an iterator of requests.
use Rattle.std.specs.Prelude.{ℕ, List, [], ◌∷◌, ◌++◌, map, Option, Some, None, Result, Ok, Vec}
use Rattle.std.specs.Vec.Iter.{into_iter_items}
use Rattle.std.specs.declared.alloc.Global.{Global}
use Rattle.mysql_cells.specs.declared.value.Value.{Value}
use Rattle.mysql_values.specs.declared.params.ParamsError.{ParamsError}
use Rattle.mysql_values.specs.Params.{values_over}
use Rattle.mysql_bulk_builder.specs.declared.given.Given.{Given}
use Rattle.mysql_bulk_builder.specs.declared.given.Rest.{Rest}
use Rattle.mysql_bulk_builder.specs.declared.given.Rest.TheVariants.{Rows, Sets}
use Rattle.mysql_bulk_builder.specs.Cut.{Row}

-- what each row or set gives over a query's names: a row, or the error for which it gives none
abbrev pub Giving : Type 0
Giving = List (Result Row ParamsError)

abbrev pub rest_giving : List (List ℕ) → Rest → Giving
rest_giving names (Rows rows) = map (λ row. Ok row.items) (into_iter_items rows)
rest_giving names (Sets sets) = map (λ set. values_over names set) (into_iter_items sets)

-- the row that came back, if one did
abbrev pub back_giving : Option (Vec Value Global) → Giving
back_giving None = []
back_giving (Some row) = Ok row.items ∷ []

abbrev pub giving : List (List ℕ) → Given → Giving
giving names given = back_giving given.back ++ rest_giving names given.rest
