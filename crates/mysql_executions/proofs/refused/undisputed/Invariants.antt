use Rattle.std.proofs.Common.{◌≡◌, ◌+◌, drop}
use Rattle.mysql_executions.specs.After.{undisputed}
use Rattle.mysql_executions.proofs.refused.undisputed.Given as goal

abbrev pub invariant-loop-place : goal.invariant-loop-place
invariant-loop-place l = l.place + undisputed (drop l.place l.types) ≡ undisputed l.types
