use Rattle.std.proofs.Common.{length, ◌-◌, ◌≤◌}
use Rattle.mysql_queries.proofs.Cuts.{GoesOn}
use Rattle.mysql_queries.proofs.tokens.quoted_end.Given as goal

abbrev pub invariant-loop-i : goal.invariant-loop-i
invariant-loop-i l = record { in_range : l.i ≤ length l.text; goes_on : GoesOn l.escapes l.quote l.text l.i }

abbrev pub decreases-loop-i : goal.decreases-loop-i
decreases-loop-i l = length l.text - l.i
