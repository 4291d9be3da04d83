use Rattle.std.proofs.Common.{◌≡◌, map, take}
use Rattle.mysql_connection_writer.specs.Executions.{bound_to}
use Rattle.mysql_connection_writer.proofs.executions.own_types.Given as goal

abbrev pub invariant-loop-value : goal.invariant-loop-value
invariant-loop-value l = l.types.items ≡ map bound_to (take l.value-index l.values)
