use Rattle.std.proofs.Common.{length, ◌-◌, ◌≤◌}
use Rattle.mysql_queries.proofs.Cuts.{NameTo}
use Rattle.mysql_queries.proofs.tokens.name_end.Given as goal

abbrev pub invariant-loop-i : goal.invariant-loop-i
invariant-loop-i l = record { in_range : l.i ≤ length l.text; front : NameTo l.text l.i }

abbrev pub decreases-loop-i : goal.decreases-loop-i
decreases-loop-i l = length l.text - l.i
