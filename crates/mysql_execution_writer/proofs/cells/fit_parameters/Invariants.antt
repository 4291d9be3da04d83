use Rattle.std.proofs.Common.{◌≡◌, drop}
use Rattle.mysql_executions.specs.Views.{types_by, types_of}
use Rattle.mysql_execution_writer.specs.Cells.{are_parameters}
use Rattle.mysql_execution_writer.proofs.cells.fit_parameters.Given as goal

abbrev pub invariant-loop-place : goal.invariant-loop-place
invariant-loop-place l =
    are_parameters l.s.long_data l.place (drop l.place (types_by (types_of l.own) l.s.types)) (drop l.place l.values)
    ≡ are_parameters l.s.long_data 0 (types_by (types_of l.own) l.s.types) l.values
