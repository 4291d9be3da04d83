use Rattle.std.proofs.Common.{◌≡◌, ◌-◌}
use Rattle.mysql_executions.specs.Types.{types_read}
use Rattle.mysql_executions.proofs.Loops.{behind}
use Rattle.mysql_executions.proofs.type_reading.read_types.Given as goal

abbrev pub invariant-loop : goal.invariant-loop
invariant-loop l = behind l.found.items (types_read l.named (l.count - l.counter) l.rest) ≡
    types_read l.named l.count l.bytes
