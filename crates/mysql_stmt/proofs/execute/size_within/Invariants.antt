use Rattle.std.proofs.Common.{◌≡◌, ◌+◌, ◌≤◌, map}
use Rattle.mysql_stmt.specs.Executions.{whole_size}
use Rattle.mysql_stmt.proofs.LongData.{left}
use Rattle.mysql_stmt.proofs.execute.size_within.Given as goal

abbrev pub invariant-loop-value : goal.invariant-loop-value
invariant-loop-value g l = record {
  sum : whole_size (map g.V.HasValue.value l.values) + l.room ≡ l.most + left g.V.HasValue.value l.values l.value-index;
  small : l.room ≤ l.most;
}
