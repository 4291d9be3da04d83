-- A first cell whose value was taken, and put back.
use Rattle.std.proofs.Common.{◌≡◌, Bool, true, false, List, [], ◌∷◌, Option, Some, None, if◌then◌else◌, refl, ap}
use Rattle.std.proofs.Common.{slice_get, slice_set}
use Rattle.std.specs.Option.{option_flatten}
use Rattle.mysql_cells.specs.declared.value.Value.{Value}
use Rattle.mysql_rows.specs.Rows.{Row, cell_at, with_cell, without_cell}

nothing_there : (cells : List (Option Value)) → None ≡ option_flatten (slice_get cells 0) →
    slice_set cells 0 None ≡ cells
nothing_there [] e = refl
nothing_there (None ∷ cells) e = refl
nothing_there (Some value ∷ cells) e = cc

there_again : (cells : List (Option Value)) (value : Value) → Some value ≡ option_flatten (slice_get cells 0)
    → slice_set (slice_set cells 0 None) 0 (Some value) ≡ cells
there_again [] value e = cc
there_again (None ∷ cells) value e = cc
there_again (Some other ∷ cells) value e = ap (λ (x : Option Value). x ∷ cells) e

-- where nothing was there to be taken, the row is as it was
pub nothing_taken : (row : Row) (is_there : Bool) → None ≡ cell_at row (if is_there then Some 0 else None)
    → without_cell row (if is_there then Some 0 else None) ≡ row
nothing_taken row true e =
    ap (λ (cells : List (Option Value)). record { columns = row.columns; cells = cells }) (nothing_there row.cells e)
nothing_taken row false e = refl

-- once its value is put back, the row is as it was
pub put_back : (row : Row) (is_there : Bool) (value : Value) → Some value ≡
    cell_at row (if is_there then Some 0 else None)
    → with_cell (without_cell row (if is_there then Some 0 else None)) 0 (Some value) ≡ row
put_back row true value e =
    ap (λ (cells : List (Option Value)). record { columns = row.columns; cells = cells })
    (there_again row.cells value e)
put_back row false value e = cc
