use Rattle.std.proofs.Common.{◌≡◌, ◌++◌, ◌+◌, ◌-◌, drop}
use Rattle.mysql_stmt.specs.Executions.{null_bits}
use Rattle.mysql_execution_writer.specs.Written.{values_of}
use Rattle.mysql_execution_writer.proofs.bitmap.null_byte_of_both.Given as goal

abbrev pub invariant-loop-done : goal.invariant-loop-done
invariant-loop-done l = l.byte ≡
    null_bits l.done (drop (l.first + (8 - l.done)) (l.parameters ++ values_of l.attributes))
