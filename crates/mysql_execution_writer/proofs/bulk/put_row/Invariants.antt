use Rattle.std.proofs.Common.{◌≡◌, ◌++◌, drop}
use Rattle.mysql_executions.specs.Views.{types_by, types_of}
use Rattle.mysql_execution_writer.specs.Bulks.{row_bytes}
use Rattle.mysql_execution_writer.proofs.bulk.put_row.Given as goal

abbrev pub invariant-loop-place : goal.invariant-loop-place
invariant-loop-place l =
    l.out.items ++ row_bytes (drop l.place (types_by (types_of l.own) l.s.types))
    (drop l.place l.row) ≡ l.initial.out.items ++
    row_bytes (types_by (types_of l.own) l.s.types) l.row
