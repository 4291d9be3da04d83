-- Cells that fit, place by place.
use Rattle.std.proofs.Common.{ℕ, suc, ◌<◌, List, [], ◌∷◌, length, Option, Some, None, IfSome, slice_get, arith}
use Rattle.std.specs.Option.{option_flatten}
use Rattle.mysql_cells.specs.Values.{FitsFields}
use Rattle.mysql_cells.specs.declared.value.Value.{Value}
use Rattle.mysql_reply_writer.specs.Fits.{CellFits, CellsFit}

first_fits : (cell : Option Value) → IfSome cell (λ value. FitsFields value) → CellFits cell
first_fits None h = tt
first_fits (Some value) h = h

pub each_fits : (cells : List (Option Value)) →
    ((k : ℕ) → k < length cells →
    IfSome (option_flatten (slice_get cells k)) (λ value. FitsFields value)) → CellsFit cells
each_fits [] h = tt
each_fits (cell ∷ cells) h = (first_fits cell (h 0 (omega arith)), each_fits cells (λ k lt. h (suc k) (omega arith)))
