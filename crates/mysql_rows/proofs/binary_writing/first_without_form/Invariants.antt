use Rattle.std.proofs.Common.{◌≡◌, drop, map}
use Rattle.std.specs.Prelude.{is_none, zip}
use Rattle.std.specs.List.{position_from}
use Rattle.std.specs.Option.{option_and_then}
use Rattle.mysql_rows.specs.Views.{column_views}
use Rattle.mysql_rows.specs.Written.{binary_cause, cell_in}
use Rattle.mysql_rows.proofs.binary_writing.first_without_form.Given as goal

abbrev pub invariant-loop-place : goal.invariant-loop-place
invariant-loop-place g l =
    position_from (λ placed. is_none (option_and_then (cell_in placed.0) placed.1)) l.place
    (zip (column_views (drop l.place l.columns)) (map g.C.Held.held (drop l.place l.cells)))
    ≡ binary_cause (column_views l.columns) (map g.C.Held.held l.cells)
