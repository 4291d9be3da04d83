use Rattle.std.proofs.Common.{length, ◌-◌, ◌≤◌}
use Rattle.mysql_queries.proofs.Cuts.{BlockGoesOn}
use Rattle.mysql_queries.proofs.tokens.block_end.Given as goal

abbrev pub invariant-loop-i : goal.invariant-loop-i
invariant-loop-i l = record { from : 2 ≤ l.i; in_range : l.i ≤ length l.text; goes_on : BlockGoesOn l.text l.i }

abbrev pub decreases-loop-i : goal.decreases-loop-i
decreases-loop-i l = length l.text - l.i
