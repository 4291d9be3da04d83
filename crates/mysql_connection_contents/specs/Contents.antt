-- What a client says of one prepared statement on a connection.
-- MySQL: Client/Server Protocol, "Prepared Statements", "COM_STMT_EXECUTE",
-- "COM_STMT_SEND_LONG_DATA", "COM_STMT_RESET"; MariaDB: "COM_STMT_BULK_EXECUTE".
use Rattle.std.specs.Prelude.{◌≡◌, ◌≢◌, ℕ, Bool, true, false, not, ◌==◌, ◌&&◌, List, []}
use Rattle.std.specs.Prelude.{◌∷◌, ◌++◌, ◌⊎◌, map, Option, Some, None, Ok}
use Rattle.std.specs.List.{AllByRecursion, filter, list_all}
use Rattle.mysql_wire.specs.FirstPacket.{Whole, first_packet}
use Rattle.mysql_connection_rules.specs.declared.limits.Limits.{Limits}
use Rattle.mysql_connection_rules.specs.declared.side.Side.{Side}
use Rattle.mysql_connection_rules.specs.Events.{Event}
use Rattle.mysql_connection_rules.specs.Events as events
use Rattle.mysql_connection_rules.specs.Runs.{Runs}
use Rattle.mysql_connection_rules.specs.Standing.{About, Phase, Standing}
use Rattle.mysql_connection_rules.specs.Standing.About.{Executing, Preparing, Resetting}
use Rattle.mysql_connection_rules.specs.Standing as phases
use Rattle.mysql_connection_rules.specs.Steps.{id_in_question, step, turn}
use Rattle.mysql_connection_rules.specs.Streams.{Beginning, Says, Streams, World, from_greeting}
use Rattle.mysql_connection_rules.specs.Streams.{from_login, limit_of, moved, next, numbered}
use Rattle.mysql_connection_rules.specs.Streams.{start, stream_of}
use Rattle.mysql_connection_statements.specs.Statements.{IsOrdered, Statement, Statements}
use Rattle.mysql_connection_statements.specs.Statements.{no_statements, statement_at}
use Rattle.mysql_const.specs.declared.capabilities.Capabilities.{Capabilities}
use Rattle.mysql_connection_recoding.specs.Agreement.{Agree, BulksInForce, all_there}
use Rattle.mysql_connection_recoding.specs.Agreement.{is_about_parameters, sets_of}
use Rattle.mysql_executions.specs.After.{freshly_prepared, is_disputed, malformed_packet}
use Rattle.mysql_executions.specs.After.{unsupported_command}
use Rattle.mysql_executions.specs.InForce.{InForce}
use Rattle.mysql_executions.specs.Types.{has_query_attributes}
use Rattle.mysql_executions.specs.declared.types.ParameterType.{ParameterType}
use Rattle.mysql_receive.specs.Audit.{Reads}
use Rattle.mysql_receive.specs.InForce.{StatementState}
use Rattle.mysql_receive.specs.InForce as receive
use Rattle.mysql_receive.specs.Query.{Statement as ReceivedStatement, place_count}
use Rattle.mysql_receive.specs.Reading.{Set}
use Rattle.mysql_reply_events.specs.Events.{Event as ReplySaid}
use Rattle.mysql_reply_events.specs.Events.Event.{ErrorEvent, OkEvent, PreparedEvent}
use Rattle.mysql_server_packets.specs.Packets.{ServerError}
use Rattle.mysql_values.specs.Content.{Content}

-- PAYLOADS, ONE AFTER ANOTHER

-- A payload that was read, of a side, behind which this number was due; what stood at it, and what
-- it said.
pub record Spoken : Type 0 where
  pub side : Side
  pub number : ℕ
  pub standing : Standing
  pub payload : List ℕ
  pub event : Event

-- These payloads were read by the table of steps, one after another.
abbrev pub Spoke : Standing → List Spoken → Standing → Type 0
Spoke s [] last = s ≡ last
Spoke s (x ∷ xs) last = (x.standing ≡ s) × ((mid : Standing) ×
    (step s x.payload ≡ Ok (x.event, mid)) × Spoke (numbered x.side x.number mid) xs last)

-- They were read of two streams: each was the first packet of the stream whose turn it was.
abbrev pub Heard : World → List Spoken → World → Type 0
Heard w [] last = w ≡ last
Heard w (x ∷ xs) last = (x.standing ≡ w.standing) × ((mid : Standing) × (rest : List ℕ) ×
    (turn w.standing.phase ≡ Some x.side) ×
    (first_packet (limit_of x.side w.limits) w.standing.number
    (stream_of x.side w.unread).bytes ≡ Whole x.payload x.number rest) ×
    (step w.standing x.payload ≡ Ok (x.event, mid)) ×
    Heard (moved w x.side x.number rest mid) xs last)

abbrev pub events_of : List Spoken → List Event
events_of xs = map (λ x. x.event) xs

-- WHAT IS SAID OF ONE STATEMENT

-- What stands of a statement's parameters.
pub record Stands (s : Statements) (id : ℕ) (p : InForce) : Type 0 where
  pub statement : Statement
  pub found : statement_at s id ≡ Some statement
  pub parameters : statement.parameters ≡ p

abbrev pub is_id : Option ℕ → ℕ → Bool
is_id None id = false
is_id (Some found) id = found == id

abbrev pub is_due : Phase → Bool
is_due phases.Command = true
is_due phase = false

-- A command about the parameters of the statement of this id: an execution, a bulk execution, long
-- data, a reset.
abbrev pub is_about : ℕ → Spoken → Bool
is_about id x = is_due x.standing.phase &&
    (is_about_parameters x.payload && is_id (id_in_question x.standing.statements x.payload) id)

abbrev pub payloads_about : ℕ → List Spoken → List (List ℕ)
payloads_about id xs = map (λ x. x.payload) (filter (is_about id) xs)

-- What these commands say, as the events have them.
abbrev pub sets_said : Event → List (List (Option Content))
sets_said (events.Asked command) = sets_of command
sets_said event = []

abbrev pub sets_about : ℕ → List Spoken → List (List (List (Option Content)))
sets_about id xs = map (λ x. sets_said x.event) (filter (is_about id) xs)

-- WHAT LEAVES A STATEMENT

-- Types that each server takes.
abbrev pub are_undisputed : List ParameterType → Bool
are_undisputed types = list_all (λ t. not (is_disputed t.column_type)) types

abbrev pub types_at : Option Statement → List ParameterType
types_at None = []
types_at (Some statement) = statement.parameters.types

-- A refusal that takes nothing back: the server read the execution (its error is neither 1835,
-- ER_MALFORMED_PACKET, nor 1295, ER_UNSUPPORTED_PS), and takes the types that are in force.
pub record LeavesAll (code : ℕ) (types : List ParameterType) : Type 0 where
  pub not_malformed : code ≢ malformed_packet
  pub not_unsupported : code ≢ unsupported_command
  pub taken : are_undisputed types ≡ true

-- Commands by which the statement of this id doesn't go: no change of user, and no close of it.
abbrev pub CommandLeaves : ℕ → Statements → List ℕ → Type 0
CommandLeaves id s [] = Unit {0}
CommandLeaves id s (number ∷ body) =
    (number ≢ 0x11) × (number ≡ 0x19 → is_id (id_in_question s (number ∷ body)) id ≡ false)

-- Replies by which it doesn't go, no other one comes in its place, and nothing is taken back.
abbrev pub ReplyLeaves : ℕ → Statements → About → ReplySaid → Type 0
ReplyLeaves id s (Preparing text size) (PreparedEvent p follow) = p.statement_id ≢ id
ReplyLeaves id s (Executing pending) (ErrorEvent error) =
    pending.id ≡ id → LeavesAll error.error_code (types_at (statement_at s id))
ReplyLeaves id s Resetting (OkEvent ok) = ⊥
ReplyLeaves id s about event = Unit {0}

abbrev pub EventLeaves : ℕ → Statements → About → Event → Type 0
EventLeaves id s about (events.Replied said) = ReplyLeaves id s about said
EventLeaves id s about event = Unit {0}

abbrev pub LeavesIn : ℕ → Phase → Statements → List ℕ → Event → Type 0
LeavesIn id phases.Command s payload event = CommandLeaves id s payload
LeavesIn id (phases.Reply r) s payload event = EventLeaves id s r.about event
LeavesIn id phase s payload event = Unit {0}

abbrev pub Leaves : ℕ → Spoken → Type 0
Leaves id x = LeavesIn id x.standing.phase x.standing.statements x.payload x.event

-- THE LAWS

abbrev pub is_logged_in : Phase → Bool
is_logged_in phases.Greeting = false
is_logged_in phases.Response = false
is_logged_in phase = true

-- A user has begun to log in, and the ids of the statements ascend.
pub record IsSettled (s : Standing) : Type 0 where
  pub logged_in : is_logged_in s.phase ≡ true
  pub own_ids : IsOrdered s.statements

-- Where what a client says of a prepared statement on a connection is what `receive` reads, its
-- executions have these contents, in this order, and nothing between. Nothing else on the
-- connection matters, as long as the statement stays and no refusal takes anything back.
abbrev pub ConnectionExecutionsAreReceived : Type 0
ConnectionExecutionsAreReceived =
    (s last : Standing) (xs : List Spoken) (id : ℕ) (p : InForce) (statement : ReceivedStatement)
    (state : StatementState) (first : ℕ) (reads : List (List Set)) →
    Spoke s xs last → IsSettled s → Stands s.statements id p → Agree statement state p →
    has_query_attributes s.capabilities ≡ false →
    BulksInForce s.capabilities (payloads_about id xs) →
    AllByRecursion (Leaves id) xs → Reads statement state first (payloads_about id xs) reads →
    sets_about id xs ≡ all_there reads

-- It begins where no statement is prepared: at the greeting, and behind a login.
abbrev pub BeginsWithNone : Beginning → Type 0
BeginsWithNone begun = begun.first.statements ≡ no_statements

abbrev pub BothBeginWithNone : Type 0
BothBeginWithNone = (limits : Limits) →
    BeginsWithNone (from_greeting limits) ×
    ((capabilities : Capabilities) → BeginsWithNone (from_login limits capabilities))

-- The ids of the statements ascend at first, and whatever is said.
abbrev pub IdsAreOwn : Standing → Type 0
IdsAreOwn s = IsOrdered s.statements

abbrev pub IdsBeginOwn : Type 0
IdsBeginOwn = (begun : Beginning) → BeginsWithNone begun → IdsAreOwn begun.first

abbrev pub IdsStayOwn : Type 0
IdsStayOwn = (s mid : Standing) (payload : List ℕ) (event : Event) →
    step s payload ≡ Ok (event, mid) → IdsAreOwn s → IdsAreOwn mid

abbrev pub IsPreparing : About → Type 0
IsPreparing (Preparing text size) = Unit {0}
IsPreparing about = ⊥

abbrev pub PreparesAs : (id count : ℕ) → Event → Type 0
PreparesAs id count (events.Replied (PreparedEvent p follow)) =
    (p.statement_id ≡ id) × (p.num_params ≡ count)
PreparesAs id count event = ⊥

-- The server answers a prepare: the statement has this id, and so many parameters.
abbrev pub PreparesIn : (id count : ℕ) → Phase → Event → Type 0
PreparesIn id count (phases.Reply r) event = IsPreparing r.about × PreparesAs id count event
PreparesIn id count phase event = ⊥

-- Then the statement stands from then on, with no types in force.
abbrev pub PreparedStatementsStand : Type 0
PreparedStatementsStand = (s mid : Standing) (payload : List ℕ) (event : Event) (id count : ℕ) →
    step s payload ≡ Ok (event, mid) → PreparesIn id count s.phase event →
    Stands mid.statements id (freshly_prepared count)

-- A run's events are those of payloads that were read so, and last words at most behind them.
abbrev pub Ends : World → List Spoken → List Event → World → Type 0
Ends mid xs said last = ((said ≡ events_of xs) × (mid ≡ last)) ⊎
    ((error : ServerError) × (said ≡ events_of xs ++ events.Farewell error ∷ []) ×
    (next mid ≡ Says (events.Farewell error) last))

abbrev pub RunsAreHeard : Type 0
RunsAreHeard = (w last : World) (said : List Event) → Runs w said last →
    (xs : List Spoken) × (mid : World) × Heard w xs mid × Ends mid xs said last

-- What was read of two streams was read by the table.
abbrev pub HeardIsSpoken : Type 0
HeardIsSpoken = (w last : World) (xs : List Spoken) → Heard w xs last →
    Spoke w.standing xs last.standing

-- On a connection, from its beginning on: behind the answer to a prepare, by which a query's
-- statement has this id, what `receive` reads of the commands about it the events say.
abbrev pub StreamsAreReceived : Type 0
StreamsAreReceived =
    (begun : Beginning) (streams : Streams) (before : List Spoken) (answer : Spoken)
    (xs : List Spoken) (last : World) (id : ℕ) (statement : ReceivedStatement) (first : ℕ)
    (reads : List (List Set)) → BeginsWithNone begun →
    Heard (start begun streams) (before ++ answer ∷ xs) last →
    PreparesIn id (place_count statement.query) answer.standing.phase answer.event →
    has_query_attributes answer.standing.capabilities ≡ false →
    BulksInForce answer.standing.capabilities (payloads_about id xs) →
    AllByRecursion (Leaves id) xs →
    Reads statement receive.freshly_prepared first (payloads_about id xs) reads →
    sets_about id xs ≡ all_there reads
