use Rattle.std.proofs.Common.{◌≡◌, map, take}
use Rattle.mysql_execution_writer.specs.Cells.{as_read}
use Rattle.mysql_connection_writer.proofs.executions.all_as_read.Given as goal

abbrev pub invariant-loop-value : goal.invariant-loop-value
invariant-loop-value l = l.read.items ≡ map as_read (take l.value-index l.values)
