-- What a row of a set's values says of the set.
use Rattle.std.proofs.Common.{◌≡◌, List, Option, Some, None, Ok, Err, MatchOption, map}
use Rattle.mysql_cells.specs.declared.value.Value.{Value}
use Rattle.mysql_c_handles.specs.declared.code.Code.{Code}
use Rattle.mysql_rows.specs.declared.row.Row.{Row}
use Rattle.mysql_rows.specs.Views.{row_view}

-- A row was made, so the set is there; and what holds of its values where the row has them holds.
pub of_set : (held : Option (List Value)) (row : Row) (why : Code) (Without : Type 0) (With : List Value → Type 0)
    → MatchOption held (Ok row ≡ Err why) (λ values. (row_view row).cells ≡ map Some values)
    → ((values : List Value) → (row_view row).cells ≡ map Some values → With values) → MatchOption held Without With
of_set None row why Without With made goes_on = cc
of_set (Some values) row why Without With made goes_on = goes_on values made
