-- What a list of events shows of prepared statements, by the events alone. MySQL: Client/Server Protocol,
-- "Prepared Statements", "COM_CHANGE_USER" and "COM_RESET_CONNECTION"; MariaDB: "COM_STMT_EXECUTE"
-- ('Statement id').
use Rattle.std.specs.Prelude.{◌≡◌, ℕ, Bool, true, false, ◌==◌, if◌then◌else◌, List, [], ◌∷◌, ◌++◌}
use Rattle.std.specs.Prelude.{Option, Some, None}
use Rattle.std.specs.List.{AllByRecursion, flat_map}
use Rattle.std.specs.Option.{option_map}
use Rattle.mysql_commands.specs.Commands.{BulkExecute, ChangeUser, Close, Command, Execute, Other, Prepare}
use Rattle.mysql_commands.specs.Commands.{Query, ResetConnection}
use Rattle.mysql_commands.specs.Replies.{statement_of}
use Rattle.mysql_connection_contents.specs.Contents.{Spoken, events_of, is_due, is_id, sets_about}
use Rattle.mysql_connection_contents.specs.Records.{HasHeard}
use Rattle.mysql_connection_recoding.specs.Agreement.{sets_of}
use Rattle.mysql_connection_rules.specs.Events.{Event}
use Rattle.mysql_connection_rules.specs.Events.Event.{Asked, Replied}
use Rattle.mysql_connection_rules.specs.Runs.{Runs}
use Rattle.mysql_connection_rules.specs.Standing.{Standing}
use Rattle.mysql_connection_rules.specs.Streams.{Beginning, Streams, World, from_greeting, from_login, start}
use Rattle.mysql_connection_rules.specs.declared.limits.Limits.{Limits}
use Rattle.mysql_connection_statements.specs.Statements.{last_prepared, statement_at, unless_it}
use Rattle.mysql_const.specs.declared.capabilities.Capabilities.{Capabilities}
use Rattle.mysql_executions.specs.Types.{has_query_attributes}
use Rattle.mysql_reply_events.specs.Events.{Event as ReplySaid}
use Rattle.mysql_reply_events.specs.Events.Event.{OkEvent, PreparedEvent}
use Rattle.mysql_values.specs.Content.{Content}

-- WHAT COMMANDS DO TO STATEMENTS: those that are laid out as none, by their number and id

abbrev pub is_numbered : ℕ → List ℕ → Bool
is_numbered number [] = false
is_numbered number (byte ∷ bytes) = byte == number

abbrev pub changes_user : Command → Bool
changes_user (ChangeUser fields) = true
changes_user (Other payload) = is_numbered 0x11 payload
changes_user command = false

abbrev pub begins_anew : Command → Bool
begins_anew ResetConnection = true
begins_anew (Other payload) = is_numbered 0x1f payload
begins_anew command = false

abbrev pub closes : Command → Option ℕ
closes (Close id) = Some id
closes (Other payload) = if is_numbered 0x19 payload then statement_of payload else None
closes command = None

abbrev pub prepares : Command → Option (List ℕ)
prepares (Prepare text) = Some text
prepares command = None

-- WHAT EVENTS SHOW

-- The text of each statement that is prepared, the id that was prepared last, and the last command.
pub record Known : Type 0 where
  pub texts : ℕ → Option (List ℕ)
  pub last : Option ℕ
  pub asked : Option Command

abbrev pub nothing_known : Known
nothing_known = record { texts = λ id. None; last = None; asked = None }

-- The statement that an id stands for.
abbrev pub named : Known → Option ℕ → Option ℕ
named k None = None
named k (Some id) = if id == last_prepared then k.last else Some id

abbrev pub without : Option ℕ → (ℕ → Option (List ℕ)) → ℕ → Option (List ℕ)
without None texts id = texts id
without (Some closed) texts id = if id == closed then None else texts id

abbrev pub last_without : Option ℕ → Option ℕ → Option ℕ
last_without None last = last
last_without (Some closed) last = unless_it closed last

-- At a prepare none was prepared last.
abbrev pub last_behind : Option (List ℕ) → Option ℕ → Option ℕ → Option ℕ
last_behind (Some text) closed last = None
last_behind None closed last = last_without closed last

abbrev pub behind_command : Command → Known → Known
behind_command command k =
    if changes_user command then record { texts = λ id. None; last = None; asked = Some command }
    else record {
      texts = without (named k (closes command)) k.texts;
      last = last_behind (prepares command) (named k (closes command)) k.last;
      asked = Some command;
    }

abbrev pub text_asked : Option Command → Option (List ℕ)
text_asked None = None
text_asked (Some command) = prepares command

abbrev pub is_anew : Option Command → Bool
is_anew None = false
is_anew (Some command) = begins_anew command

-- A prepare is answered once.
abbrev pub behind_prepared : Option (List ℕ) → ℕ → Known → Known
behind_prepared None id k = k
behind_prepared (Some text) id k =
    record { texts = λ other. if other == id then Some text else k.texts other; last = Some id; asked = None }

abbrev pub behind_ok : Bool → Known → Known
behind_ok true k = record { texts = λ id. None; last = None; asked = k.asked }
behind_ok false k = k

abbrev pub behind_reply : ReplySaid → Known → Known
behind_reply (PreparedEvent p follow) k = behind_prepared (text_asked k.asked) p.statement_id k
behind_reply (OkEvent ok) k = behind_ok (is_anew k.asked) k
behind_reply said k = k

abbrev pub behind : Event → Known → Known
behind (Asked command) k = behind_command command k
behind (Replied said) k = behind_reply said k
behind event k = k

abbrev pub known_from : Known → List Event → Known
known_from k [] = k
known_from k (event ∷ events) = known_from (behind event k) events

-- The text of the statement of this id, where one is prepared.
abbrev pub text_shown : ℕ → List Event → Option (List ℕ)
text_shown id events = (known_from nothing_known events).texts id

-- WHAT IS EXECUTED

-- The statement that an execution names, or a bulk execution.
abbrev pub executes : Command → Option ℕ
executes (Execute e) = Some e.statement
executes (BulkExecute e) = Some e.statement
executes command = None

-- The sets by which an event executes the statement of this id.
abbrev pub executed_by : ℕ → Known → Event → List (List (Option Content))
executed_by id k (Asked command) = if is_id (named k (executes command)) id then sets_of command else []
executed_by id k event = []

abbrev pub executed_from : ℕ → Known → List Event → List (List (Option Content))
executed_from id k [] = []
executed_from id k (event ∷ events) = executed_by id k event ++ executed_from id (behind event k) events

-- The sets by which the statement of this id is executed in events that stand behind others.
abbrev pub executed_in : ℕ → (before events : List Event) → List (List (Option Content))
executed_in id before events = executed_from id (known_from nothing_known before) events

-- THE LAWS

-- It begins at the greeting, or behind a login.
pub data IsBeginning : Beginning → Type 0 where
  at_greeting : (limits : Limits) → IsBeginning (from_greeting limits)
  behind_login : (limits : Limits) (capabilities : Capabilities) → IsBeginning (from_login limits capabilities)

-- Each statement that stands has the text that the events show, and they show no other.
abbrev pub ShowsTexts : List Event → Standing → Type 0
ShowsTexts events s = (id : ℕ) →
    option_map (λ statement. statement.text) (statement_at s.statements id) ≡ text_shown id events

-- So it is behind any events, of any bytes of both sides.
abbrev pub TextsAreShown : Type 0
TextsAreShown = (begun : Beginning) (streams : Streams) (events : List Event) (held : World) → IsBeginning begun →
    Runs (start begun streams) events held → ShowsTexts events held.standing

-- What payloads say of a statement's executions is what their events show, behind those of the payloads
-- before them.
abbrev pub ShowsExecutions : List Spoken → Type 0
ShowsExecutions payloads = (before xs rest : List Spoken) (id : ℕ) → payloads ≡ before ++ (xs ++ rest) →
    flat_map (λ sets. sets) (sets_about id xs) ≡ executed_in id (events_of before) (events_of xs)

-- So it is of all that was heard.
abbrev pub ExecutionsAreShown : Type 0
ExecutionsAreShown = (begun : Beginning) (streams : Streams) (events : List Event) (held : World) →
    IsBeginning begun → (heard : HasHeard begun streams events held) → ShowsExecutions heard.payloads

-- A text that a client says where a command is due is the query of it, where query attributes aren't in
-- force.
abbrev pub IsShownQuery : Spoken → Type 0
IsShownQuery x = (text : List ℕ) → x.payload ≡ 0x03 ∷ text → is_due x.standing.phase ≡ true →
    has_query_attributes x.standing.capabilities ≡ false → x.event ≡ Asked (Query [] text)

abbrev pub ShowsQueries : List Spoken → Type 0
ShowsQueries payloads = AllByRecursion IsShownQuery payloads

abbrev pub QueriesAreShown : Type 0
QueriesAreShown = (begun : Beginning) (streams : Streams) (events : List Event) (held : World) →
    (heard : HasHeard begun streams events held) → ShowsQueries heard.payloads
