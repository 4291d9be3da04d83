use Rattle.std.proofs.Common.{ℕ, ◌<◌, IfSome, Some}
use Rattle.mysql_cells.specs.Values.{FitsFields}
use Rattle.mysql_rows.specs.Rows.{cell_at}
use Rattle.mysql_rows.specs.Views.{row_view}
use Rattle.mysql_reply_writer.proofs.facts.cells_fit.Given as goal

abbrev pub invariant-loop-place : goal.invariant-loop-place
invariant-loop-place l = (k : ℕ) → k < l.place → IfSome (cell_at (row_view l.row) (Some k)) (λ value. FitsFields value)
