use Rattle.std.proofs.Common.{◌≡◌, length}
use Rattle.mysql_ok_packets.specs.Reading.{to_end_at}
use Rattle.mysql_ok_packets.specs.SessionStates.{variable_at}
use Rattle.mysql_session_modes.specs.Told.{told_by_variable, walked}
use Rattle.mysql_session_modes.specs.Told.Told.{Unreadable}
use Rattle.mysql_session_modes.specs.Views.{told_view}
use Rattle.mysql_session_modes.proofs.told.by_variables.Given as goal

abbrev pub invariant-loop-rest : goal.invariant-loop-rest
invariant-loop-rest l =
    walked (told_by_variable l.fn.wanted) Unreadable (told_view l.told) (to_end_at variable_at l.rest.0.now)
    ≡ walked (told_by_variable l.fn.wanted) Unreadable (told_view l.fn.before) (to_end_at variable_at l.fn.content)

abbrev pub decreases-loop-rest : goal.decreases-loop-rest
decreases-loop-rest l = length l.rest.0.now
