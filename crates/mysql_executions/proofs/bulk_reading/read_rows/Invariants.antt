use Rattle.std.proofs.Common.{◌≡◌, ◌-◌, length}
use Rattle.mysql_executions.specs.Bulks.{rows_at}
use Rattle.mysql_executions.specs.Views.{rows_of, types_by, types_of}
use Rattle.mysql_executions.proofs.Loops.{rows_behind}
use Rattle.mysql_executions.proofs.bulk_reading.read_rows.Given as goal

abbrev pub invariant-loop : goal.invariant-loop
invariant-loop l =
    rows_behind (rows_of l.found.items)
    (rows_at (length l.bytes - l.counter) (types_by (types_of l.own) l.in_force) l.rest)
    ≡ rows_at (length l.bytes) (types_by (types_of l.own) l.in_force) l.bytes
