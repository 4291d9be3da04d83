use Rattle.std.proofs.Common.{◌++◌}
use Rattle.mysql_executions.specs.Types.{unnamed}
use Rattle.mysql_executions.specs.Unclear.{cells_from}
use Rattle.mysql_executions.specs.Views.{types_by, types_of}
use Rattle.mysql_executions.proofs.CellsInTurn.{GoesOn}
use Rattle.mysql_executions.proofs.unclear.look_at_values.Given as goal

abbrev pub invariant-loop-place : goal.invariant-loop-place
invariant-loop-place l = GoesOn 0
    (cells_from l.s.long_data l.nulls 0 (types_by (types_of l.own) l.s.types ++ unnamed l.further))
    l.bytes l.place l.rest
