use Rattle.std.proofs.Common.{◌<◌, ℕ, Some}
use Rattle.mysql_rows.specs.Rows.{cell_at}
use Rattle.mysql_rows.specs.Views.{row_view}
use Rattle.mysql_reply_event_writer.specs.OwnCells.{FitsCell}
use Rattle.mysql_reply_event_writer.proofs.next_rows.cells_fit.Given as goal

-- the values of the cells so far fit their fields
abbrev pub invariant-loop-place : goal.invariant-loop-place
invariant-loop-place l = (p : ℕ) → p < l.place → FitsCell (cell_at (row_view l.row) (Some p))
