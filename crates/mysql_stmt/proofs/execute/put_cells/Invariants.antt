use Rattle.std.proofs.Common.{◌≡◌, ◌++◌, take}
use Rattle.std.specs.List.{flat_map}
use Rattle.mysql_stmt.specs.Executions.{sent_cell}
use Rattle.mysql_stmt.proofs.execute.put_cells.Given as goal

abbrev pub invariant-loop-value : goal.invariant-loop-value
invariant-loop-value g l = l.buf.items ≡ l.initial.buf.items ++
    flat_map (λ value. sent_cell l.apart (g.V.HasValue.value value)) (take l.value-index l.values)
