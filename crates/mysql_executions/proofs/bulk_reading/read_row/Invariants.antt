use Rattle.std.proofs.Common.{◌≡◌, drop}
use Rattle.mysql_executions.specs.Bulks.{bulk_value_at, row_at}
use Rattle.mysql_executions.specs.Fields.{each_at}
use Rattle.mysql_executions.specs.Views.{types_by, types_of}
use Rattle.mysql_executions.proofs.Loops.{with_front}
use Rattle.mysql_executions.proofs.bulk_reading.read_row.Given as goal

abbrev pub invariant-loop-place : goal.invariant-loop-place
invariant-loop-place l =
    with_front l.values.items
    (each_at (λ place t b. bulk_value_at t b) l.place
    (drop l.place (types_by (types_of l.own) l.in_force)) l.rest)
    ≡ row_at (types_by (types_of l.own) l.in_force) l.bytes
