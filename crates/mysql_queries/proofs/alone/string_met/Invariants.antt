use Rattle.std.proofs.Common.{length, ◌-◌, ◌≤◌}
use Rattle.mysql_queries.specs.Alone.{meets_string}
use Rattle.mysql_queries.proofs.TokenWalks.{Walks}
use Rattle.mysql_queries.proofs.alone.string_met.Given as goal

abbrev pub invariant-loop-at : goal.invariant-loop-at
invariant-loop-at l = record { in_range : l.at ≤ length l.text; walks : Walks l.mode (meets_string l.mode) l.text l.at }

abbrev pub decreases-loop-at : goal.decreases-loop-at
decreases-loop-at l = length l.text - l.at
