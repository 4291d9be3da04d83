-- What the definitions of what a connection's events show exclude. MySQL: Client/Server Protocol, "Prepared
-- Statements", "COM_CHANGE_USER", "COM_RESET_CONNECTION"; MariaDB: Client/Server Protocol, "COM_STMT_EXECUTE"
-- (statement id).
use Rattle.std.specs.Prelude.{◌≡◌, ℕ, false, List, [], ◌∷◌, None, Some}
use Rattle.mysql_commands.specs.Commands.{Close, Execute, Other, Ping, Prepare}
use Rattle.mysql_connection_contents.specs.Shown.{executed_in, text_shown}
use Rattle.mysql_connection_rules.specs.Events.{Event}
use Rattle.mysql_connection_rules.specs.Events.Event.{Asked, Replied}
use Rattle.mysql_executions.specs.Executions.{Execution}
use Rattle.mysql_ok_packets.specs.OkPackets.{OkPacket}
use Rattle.mysql_reply_events.specs.Events.Event.{OkEvent, PreparedEvent}

-- The server's answer to a prepare, by this id.
abbrev pub prepared_as : ℕ → Event
prepared_as id = Replied (PreparedEvent (record {
  statement_id = id;
  num_columns = 0;
  num_params = 0;
  warning_count = 0;
}) false)

-- The statement `a` is prepared by the id 1, and then these events come.
abbrev pub behind_one : List Event → List Event
behind_one events = Asked (Prepare (0x61 ∷ [])) ∷ prepared_as 1 ∷ events

-- It has its text, and no other id has one. Excluded: an answer that shows a text to which nothing was asked.
-- MySQL: Client/Server Protocol, "COM_STMT_PREPARE".
abbrev pub PreparesShowTheirTexts : Type 0
PreparesShowTheirTexts =
    (text_shown 1 (behind_one []) ≡ Some (0x61 ∷ []))
    × (text_shown 2 (behind_one []) ≡ None)
    × (text_shown 2 (behind_one (Asked Ping ∷ prepared_as 2 ∷ [])) ≡ None)

-- A close with a byte left over closes it, and so does one of ffffffff. Excluded: closes that are laid out
-- alone, and ffffffff as the id of a statement. MySQL: Client/Server Protocol, "COM_STMT_CLOSE"; MariaDB:
-- Client/Server Protocol, "COM_STMT_EXECUTE" (statement id).
abbrev pub ClosesAreShown : Type 0
ClosesAreShown =
    (text_shown 1 (behind_one (Asked (Other (0x19 ∷ 1 ∷ 0 ∷ 0 ∷ 0 ∷ 0 ∷ [])) ∷ [])) ≡ None)
    × (text_shown 1 (behind_one (Asked (Close 0xffffffff) ∷ [])) ≡ None)
    × (text_shown 1 (behind_one (Asked (Close 2) ∷ [])) ≡ Some (0x61 ∷ []))

-- A change of user that is laid out as none changes the user. Excluded: those alone that are laid out.
-- MySQL: Client/Server Protocol, "COM_CHANGE_USER".
abbrev pub ChangesOfUserAreShown : Type 0
ChangesOfUserAreShown = text_shown 1 (behind_one (Asked (Other (0x11 ∷ [])) ∷ [])) ≡ None

-- A reset with a byte left over resets the connection once it is answered by OK. Excluded: resets that are
-- laid out alone, and those that aren't answered. MySQL: Client/Server Protocol, "COM_RESET_CONNECTION".
abbrev pub ResetsAreShown : Type 0
ResetsAreShown = (ok : OkPacket) →
    (text_shown 1 (behind_one (Asked (Other (0x1f ∷ 0 ∷ [])) ∷ [])) ≡ Some (0x61 ∷ []))
    × (text_shown 1 (behind_one (Asked (Other (0x1f ∷ 0 ∷ [])) ∷ Replied (OkEvent ok) ∷ [])) ≡ None)
    × (text_shown 1 (behind_one (Asked Ping ∷ Replied (OkEvent ok) ∷ [])) ≡ Some (0x61 ∷ []))

-- An execution of ffffffff is one of the statement that was prepared last. Excluded: ids as they stand.
-- MariaDB: Client/Server Protocol, "COM_STMT_EXECUTE" (statement id).
abbrev pub ExecutionsOfTheLastAreShown : Type 0
ExecutionsOfTheLastAreShown = (e : Execution) →
    let last = record e { statement = 0xffffffff; parameters = [] } in
    (executed_in 1 (behind_one []) (Asked (Execute last) ∷ []) ≡ [] ∷ [])
    × (executed_in 0xffffffff (behind_one []) (Asked (Execute last) ∷ []) ≡ [])
