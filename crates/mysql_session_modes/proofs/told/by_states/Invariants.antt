use Rattle.std.proofs.Common.{◌≡◌, length}
use Rattle.mysql_ok_packets.specs.Reading.{to_end_at}
use Rattle.mysql_ok_packets.specs.SessionStates.{state_at}
use Rattle.mysql_session_modes.specs.Told.{told_by_state, walked}
use Rattle.mysql_session_modes.specs.Told.Told.{Nothing, Unreadable}
use Rattle.mysql_session_modes.specs.Views.{told_view}
use Rattle.mysql_session_modes.proofs.told.by_states.Given as goal

abbrev pub invariant-loop-rest : goal.invariant-loop-rest
invariant-loop-rest l =
    walked (told_by_state l.fn.wanted) Unreadable (told_view l.told) (to_end_at state_at l.rest.0.now)
    ≡ walked (told_by_state l.fn.wanted) Unreadable Nothing (to_end_at state_at l.fn.bytes)

abbrev pub decreases-loop-rest : goal.decreases-loop-rest
decreases-loop-rest l = length l.rest.0.now
