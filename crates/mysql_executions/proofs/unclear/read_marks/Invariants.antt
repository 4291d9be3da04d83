use Rattle.std.proofs.Common.{◌≡◌, ◌++◌, drop}
use Rattle.mysql_executions.specs.Unclear.{marks_from}
use Rattle.mysql_executions.specs.Views.{types_by, types_of}
use Rattle.mysql_executions.proofs.unclear.read_marks.Given as goal

abbrev pub invariant-loop-place : goal.invariant-loop-place
invariant-loop-place l =
    marks_from l.s.long_data 0 l.s.types (types_by (types_of l.own) l.s.types)
    ≡ l.marks.items ++ drop l.place (marks_from l.s.long_data 0 l.s.types (types_by (types_of l.own) l.s.types))
