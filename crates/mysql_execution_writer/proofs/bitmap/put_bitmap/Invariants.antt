use Rattle.std.proofs.Common.{◌≡◌, ◌++◌, ◌*◌, map, drop}
use Rattle.std.specs.List.{range_with_len}
use Rattle.mysql_stmt.specs.Executions.{null_bits}
use Rattle.mysql_execution_writer.specs.Written.{values_of}
use Rattle.mysql_execution_writer.proofs.bitmap.put_bitmap.Given as goal

abbrev pub invariant-loop-k : goal.invariant-loop-k
invariant-loop-k l = l.out.items ≡ l.initial.out.items ++
    map (λ k. null_bits 8 (drop (8 * k) (l.parameters ++ values_of l.attributes)))
    (range_with_len 0 l.k)
