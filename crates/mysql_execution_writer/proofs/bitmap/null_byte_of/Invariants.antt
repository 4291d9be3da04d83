use Rattle.std.proofs.Common.{◌≡◌, ◌+◌, ◌-◌, drop}
use Rattle.mysql_stmt.specs.Executions.{null_bits}
use Rattle.mysql_execution_writer.proofs.bitmap.null_byte_of.Given as goal

abbrev pub invariant-loop-done : goal.invariant-loop-done
invariant-loop-done l = l.byte ≡ null_bits l.done (drop (l.first + (8 - l.done)) l.values)
