use Rattle.std.proofs.Common.{length, ◌-◌, ◌≤◌}
use Rattle.mysql_queries.proofs.TokenWalks.{Walks}
use Rattle.mysql_session_modes.specs.Texts.{is_one_statement}
use Rattle.mysql_session_modes.proofs.texts.is_one_statement.Given as goal

abbrev pub invariant-loop-at : goal.invariant-loop-at
invariant-loop-at l = record { in_range : l.at ≤ length l.text; walks : Walks l.mode is_one_statement l.text l.at }

abbrev pub decreases-loop-at : goal.decreases-loop-at
decreases-loop-at l = length l.text - l.at
