-- What is known of the session's mode and character set behind an event of a connection.
-- MySQL: Client/Server Protocol, "OK_Packet", "Command Phase", "COM_CHANGE_USER", "COM_STMT_EXECUTE" and
-- "COM_RESET_CONNECTION"; MySQL Reference Manual, "Server Tracking of Client Session State".
use Rattle.std.specs.Prelude.{◌≡◌, ℕ, Bool, true, false, not, ◌==◌, ◌||◌, nat_eq, nat_le, if◌then◌else◌}
use Rattle.std.specs.Prelude.{List, [], ◌∷◌, length}
use Rattle.std.specs.Prelude.{Option, Some, None}
use Rattle.std.specs.List.{list_any}
use Rattle.std.specs.Option.{option_map}
use Rattle.mysql_commands.specs.Commands as commands
use Rattle.mysql_commands.specs.Commands.{Command}
use Rattle.mysql_connection_rules.specs.Events as events
use Rattle.mysql_connection_rules.specs.Events.{Event}
use Rattle.mysql_connection_rules.specs.Standing.{Standing, statement_due}
use Rattle.mysql_executions.specs.Types.{has_query_attributes}
use Rattle.mysql_reply_events.specs.Events.{Event as ReplySaid}
use Rattle.mysql_reply_events.specs.Events.Event.{ColumnsEndEvent, OkEvent, RowsEndEvent}
use Rattle.mysql_session_modes.specs.SessionModes.{BehindText, unknown_mode}
use Rattle.mysql_session_modes.specs.Told.{mode_behind_ok}
use Rattle.mysql_session_modes.specs.declared.session_mode.SessionMode.{SessionMode}

-- COMMANDS

-- What a command may change of the session: nothing, what its own text does, what its statement does, or
-- anything.
pub data Effect : Type 0 where
  Nothing : Effect
  ByText : Effect
  ByStatement : Effect
  Anything : Effect

-- The numbers of commands that run no statement, and behind which the session goes on: quit, init db, field
-- list, statistics, ping, prepare, long data, close, reset of a statement, set option, fetch.
abbrev pub quiet_numbers : List ℕ
quiet_numbers =
    0x01 ∷ 0x02 ∷ 0x04 ∷ 0x09 ∷ 0x0e ∷ 0x16 ∷ 0x18 ∷ 0x19 ∷ 0x1a ∷ 0x1b ∷ 0x1c ∷ []

-- By a command's number. A change of user and a reset begin the session anew.
abbrev pub effect_by : ℕ → Effect
effect_by number =
    if list_any (nat_eq number) quiet_numbers then Nothing
    else if number == 0x03 then ByText
    else if (number == 0x17) || (number == 0xfa) then ByStatement
    else Anything

-- Of a payload that is laid out as no command: it is as by its number, but for a query whose text isn't known.
abbrev pub effect_of_other : List ℕ → Effect
effect_of_other [] = Anything
effect_of_other (number ∷ body) = if number == 0x03 then Anything else effect_by number

abbrev pub effect_of : Command → Effect
effect_of (commands.Query attributes text) = ByText
effect_of (commands.Execute execution) = ByStatement
effect_of (commands.BulkExecute execution) = ByStatement
effect_of commands.Quit = Nothing
effect_of (commands.InitDb schema) = Nothing
effect_of (commands.FieldList table wildcard) = Nothing
effect_of commands.Statistics = Nothing
effect_of commands.Ping = Nothing
effect_of (commands.Prepare sql) = Nothing
effect_of (commands.LongData id place bytes) = Nothing
effect_of (commands.Close id) = Nothing
effect_of (commands.ResetStatement id) = Nothing
effect_of (commands.SetOption option) = Nothing
effect_of (commands.Fetch id rows) = Nothing
effect_of (commands.Other payload) = effect_of_other payload
effect_of command = Anything

-- the text of a query
abbrev pub text_of : Command → List ℕ
text_of (commands.Query attributes text) = text
text_of command = []

-- An execution may have few bytes. So a text that is longer isn't read again behind each of them.
abbrev pub is_read_again : List ℕ → Bool
is_read_again text = nat_le (length text) 1024

-- Behind an execution it is as behind the text of its statement. Of a longer one, and of one that isn't
-- known, nothing is known.
abbrev pub BehindStatement : (text : Option (List ℕ)) → (old new : SessionMode) → Type 0
BehindStatement (Some text) old new =
    (is_read_again text ≡ true → BehindText text old new) × (is_read_again text ≡ false → new ≡ unknown_mode)
BehindStatement None old new = new ≡ unknown_mode

-- The execution whose reply is due.
abbrev pub BehindExecution : Standing → (old new : SessionMode) → Type 0
BehindExecution s old new = BehindStatement (option_map (λ statement. statement.text) (statement_due s)) old new

-- Behind a command with this effect and text, behind which this stands.
abbrev pub BehindEffect : Standing → Effect → (text : List ℕ) → (old new : SessionMode) → Type 0
BehindEffect s Nothing text old new = new ≡ old
BehindEffect s ByText text old new = BehindText text old new
BehindEffect s ByStatement text old new = BehindExecution s old new
BehindEffect s Anything text old new = new ≡ unknown_mode

abbrev pub BehindCommand : Standing → Command → (old new : SessionMode) → Type 0
BehindCommand s command old new = BehindEffect s (effect_of command) (text_of command) old new

-- EVENTS

-- Behind what the server replies: OK packets alone tell of the session.
abbrev pub mode_replied : ReplySaid → SessionMode → SessionMode
mode_replied (OkEvent ok) mode = mode_behind_ok mode ok
mode_replied (ColumnsEndEvent ok) mode = mode_behind_ok mode ok
mode_replied (RowsEndEvent ok) mode = mode_behind_ok mode ok
mode_replied said mode = mode

-- Behind any event, behind which this stands.
abbrev pub ModeBehind : Standing → Event → (old new : SessionMode) → Type 0
ModeBehind s (events.Asked command) old new = BehindCommand s command old new
ModeBehind s (events.Replied said) old new = new ≡ mode_replied said old
ModeBehind s event old new = new ≡ old

-- PAYLOADS

-- A command's text stands behind its number, unless it is a query that may have attributes.
abbrev pub is_plain : Standing → List ℕ → Bool
is_plain s [] = true
is_plain s (number ∷ body) = not (number == 0x03) || not (has_query_attributes s.capabilities)

-- the bytes behind a command's number
abbrev pub body_of : List ℕ → List ℕ
body_of [] = []
body_of (number ∷ body) = body

abbrev pub effect_of_payload : List ℕ → Effect
effect_of_payload [] = Anything
effect_of_payload (number ∷ body) = effect_by number
