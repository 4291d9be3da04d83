use Rattle.std.proofs.Common.{length, ◌-◌, ◌≤◌}
use Rattle.mysql_queries.proofs.TokenWalks.{Walks}
use Rattle.mysql_session_modes.specs.Texts.{behind_skipped}
use Rattle.mysql_session_modes.proofs.texts.skipped_end.Given as goal

abbrev pub invariant-loop-at : goal.invariant-loop-at
invariant-loop-at l = record { in_range : l.at ≤ length l.text; walks : Walks l.mode behind_skipped l.text l.at }

abbrev pub decreases-loop-at : goal.decreases-loop-at
decreases-loop-at l = length l.text - l.at
