use Rattle.std.proofs.Common.{◌≡◌, take, map}
use Rattle.mysql_stmt.proofs.execute.lent.Given as goal

abbrev pub invariant-loop-value : goal.invariant-loop-value
invariant-loop-value l = map (λ value. value.now) l.lent.items ≡ take l.value-index l.values
