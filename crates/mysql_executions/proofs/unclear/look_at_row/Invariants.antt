use Rattle.mysql_executions.specs.Unclear.{cells_in_row}
use Rattle.mysql_executions.specs.Views.{types_by, types_of}
use Rattle.mysql_executions.proofs.CellsInTurn.{GoesOn}
use Rattle.mysql_executions.proofs.unclear.look_at_row.Given as goal

abbrev pub invariant-loop-place : goal.invariant-loop-place
invariant-loop-place l = GoesOn 1 (cells_in_row (types_by (types_of l.own) l.in_force) l.row) l.bytes l.place l.rest
