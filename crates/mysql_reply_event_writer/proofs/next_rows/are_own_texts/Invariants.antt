use Rattle.std.proofs.Common.{◌<◌, ℕ, Some}
use Rattle.mysql_rows.specs.Rows.{cell_at}
use Rattle.mysql_rows.specs.Views.{row_view}
use Rattle.mysql_reply_event_writer.specs.OwnCells.{IsOwnText}
use Rattle.mysql_reply_event_writer.proofs.next_rows.are_own_texts.Given as goal

-- the cells so far are read as themselves
abbrev pub invariant-loop-place : goal.invariant-loop-place
invariant-loop-place l = (p : ℕ) → p < l.place → IsOwnText (cell_at (row_view l.row) (Some p))
