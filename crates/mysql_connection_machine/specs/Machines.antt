-- What a machine that reads a connection holds, and what its calls do.
-- MySQL: Client/Server Protocol, "Connection Lifecycle" and "MySQL Packets".
use Rattle.std.specs.Prelude.{◌≡◌, ◌≢◌, ◌+◌, ◌-◌, ◌≤◌, ◌<◌, ℕ, Bool, true, false, List, length}
use Rattle.std.specs.Prelude.{if◌then◌else◌}
use Rattle.std.specs.Prelude.{Option, Some, None, Result, Ok, Err}
use Rattle.std.specs.Option.{option_and_then}
use Rattle.mysql_wire.specs.FirstPacket.{Found, Whole, first_packet}
use Rattle.mysql_wire.specs.Views.{HasManyChunks}
use Rattle.mysql_connection_rules.specs.Laws.{WithinLimits, unread_length}
use Rattle.mysql_connection_rules.specs.declared.fault.Fault.TheVariants as faults
use Rattle.mysql_connection_rules.specs.declared.side.Side.{Side}
use Rattle.mysql_connection_rules.specs.declared.side.Side.TheVariants.{Client, Server}
use Rattle.mysql_connection_rules.specs.Standing.{Phase, Standing}
use Rattle.mysql_connection_rules.specs.Steps.{turn}
use Rattle.mysql_connection_rules.specs.Streams.{Beginning, Coming, End, Fails, Failure, Piece, Says}
use Rattle.mysql_connection_rules.specs.Streams.{Stream, Waits, World, come, held, next, no_bytes}
use Rattle.mysql_connection_rules.specs.Streams.{room, start}
use Rattle.mysql_connection_rules.specs.Streams.{stream_of}
use Rattle.mysql_connection_rules.specs.Events as events
use Rattle.mysql_connection_rules.specs.Events.Event.{Replied}
use Rattle.mysql_connection_state.specs.Views.{EventHasUnclear, event_view}
use Rattle.mysql_connection_statements.specs.Statements.{Statement, Statements, resolved, statement_at}
use Rattle.mysql_connection_state.specs.declared.event.Event.{Event}
use Rattle.mysql_reply_events.specs.Events.Event.{RowEvent}
use Rattle.mysql_rows.specs.Rows.{Row}
use Rattle.mysql_session_modes.specs.SessionModes.{unknown_mode}
use Rattle.mysql_session_modes.specs.declared.session_mode.SessionMode.{SessionMode}
use Rattle.mysql_connection_machine.specs.declared.fault.ConnectionFault.{ConnectionFault}
use Rattle.mysql_connection_machine.specs.declared.fault.FeedRefusal.{FeedRefusal}
use Rattle.mysql_connection_machine.specs.declared.fault.FeedRefusal.TheVariants.{Closed, Held}
use Rattle.mysql_connection_machine.specs.declared.fault.FeedRefusal.TheVariants.{Memory}
use Rattle.mysql_connection_machine.specs.declared.lent_event.LentEvent.{LentEvent}
use Rattle.mysql_connection_machine.specs.declared.lent_event.LentEvent.TheVariants as lent

abbrev pub failure_view : ConnectionFault → Failure
failure_view f = record { side = f.side; byte = f.byte; fault = f.fault }

-- The world of a connection, and the row that was lent last.
pub record LendingWorld : Type 0 where
  pub world : World
  pub row : Option Row

-- No row is lent.
abbrev pub lending_none : World → LendingWorld
lending_none w = record { world = w; row = None }

-- The world of the connection, the fault that was found, the row that was lent last, and what is known of the
-- session's mode and character set.
pub record Machine : Type 0 where
  pub world : World
  pub failure : Option Failure
  pub row : Option Row
  pub mode : SessionMode

-- A machine to which no byte came.
abbrev pub new_machine : Beginning → Machine
new_machine begun = record { world = start begun no_bytes; failure = None; row = None; mode = unknown_mode }

abbrev pub stream_in : Side → Machine → Stream
stream_in side m = stream_of side m.world.unread

-- A piece of a side's stream came, or its end.
abbrev pub come_to : Side → Coming → Machine → Machine
come_to side coming m = record {
  world = come side coming m.world;
  failure = m.failure;
  row = None;
  mode = m.mode;
}

-- No more comes of a side's stream.
abbrev pub ended : Side → Machine → Machine
ended side m = come_to side End m

abbrev pub both_ended : Machine → Machine
both_ended m = ended Server (ended Client m)

-- Nobody's payload is due of a connection that has failed.
abbrev pub turn_by : Option Failure → Phase → Option Side
turn_by (Some failure) phase = None
turn_by None phase = turn phase

abbrev pub turn_in : Machine → Option Side
turn_in m = turn_by m.failure m.world.standing.phase

-- The prepared statement that an id of a command stands for.
abbrev pub statement_meant : Statements → ℕ → Option Statement
statement_meant s id = option_and_then (statement_at s) (resolved s id)

-- How many bytes of the side are taken.
abbrev pub room_left : Side → Machine → ℕ
room_left side m =
    if (stream_in side m).closed then 0
    else room side m.world.limits - length (stream_in side m).bytes

-- How many bytes of the side would wait unread with this piece.
abbrev pub length_with : Side → List ℕ → Machine → ℕ
length_with side piece m = length (stream_in side m).bytes + length piece

-- When each refusal of a piece comes.
abbrev pub RefusesPiece : Machine → Side → List ℕ → FeedRefusal → Type 0
RefusesPiece m side piece Closed = (stream_in side m).closed ≡ true
RefusesPiece m side piece Held =
    ((stream_in side m).closed ≡ false) × (room side m.world.limits < length_with side piece m)
RefusesPiece m side piece Memory =
    ((stream_in side m).closed ≡ false) × (length_with side piece m ≤ room side m.world.limits)

-- A piece of the side is taken whole, or refused, which changes nothing, but that for want of
-- memory no row is lent any more.
abbrev pub Feeds : Machine → Side → List ℕ → Result (Unit {0}) FeedRefusal → Machine → Type 0
Feeds old side piece (Ok done) new =
    ((stream_in side old).closed ≡ false) ×
    (length_with side piece old ≤ room side old.world.limits) ×
    (new ≡ come_to side (Piece piece) old)
Feeds old side piece (Err Memory) new =
    RefusesPiece old side piece Memory × (new ≡ record old { row = None })
Feeds old side piece (Err cause) new = RefusesPiece old side piece cause × (new ≡ old)

-- A fault was found: it is what comes next, but where memory ran out. Memory is asked for only where an event
-- or another fault comes next. Nothing changes.
pub record FindsFault (old : World) (fault : ConnectionFault) (new : World) : Type 0 where
  pub comes : next old ≢ Waits
  pub next : fault.fault ≢ faults.Memory → next old ≡ Fails (failure_view fault)
  pub same : new ≡ old

-- What comes next of the world.
abbrev pub Answers : World → Result (Option Event) ConnectionFault → World → Type 0
Answers old (Ok None) new = (next old ≡ Waits) × (new ≡ old)
Answers old (Ok (Some event)) new = next old ≡ Says (event_view event) new
Answers old (Err fault) new = FindsFault old fault new

-- The fault that an answer is.
abbrev pub failure_in : {X : Type 0} → Result (Option X) ConnectionFault → Option Failure
failure_in (Ok event) = None
failure_in (Err fault) = Some (failure_view fault)

-- The answer is this fault.
abbrev pub AnswersFault : {X : Type 0} → Result (Option X) ConnectionFault → Failure → Type 0
AnswersFault (Ok event) failure = ⊥
AnswersFault (Err fault) failure = failure_view fault ≡ failure

-- An event leaves fewer bytes unread: it takes a header at least.
abbrev pub TakesBytes : {X : Type 0} → World → Result (Option X) ConnectionFault → World → Type 0
TakesBytes old (Ok (Some event)) new = unread_length new + 4 ≤ unread_length old
TakesBytes old result new = Unit {0}

-- UNCLEAR VALUES

-- An event has the unclear values of the payload of this packet, where it is whole.
abbrev pub FoundHasUnclear : Found → Standing → Event → Type 0
FoundHasUnclear found s event = (payload : List ℕ) (number : ℕ) (rest : List ℕ) →
    found ≡ Whole payload number rest → EventHasUnclear s payload event

-- An event that comes next has those of the client's packet that stands first, where the client's
-- payload is due. Of the server's nothing is said.
abbrev pub NextHasUnclear : World → Event → Type 0
NextHasUnclear w event = turn w.standing.phase ≡ Some Client → FoundHasUnclear
    (first_packet w.limits.client w.standing.number w.unread.client.bytes) w.standing event

-- ROWS THAT ARE LENT

-- A row of a reply.
abbrev pub is_row : events.Event → Bool
is_row (Replied (RowEvent row)) = true
is_row event = false

-- A row that isn't lent came in more than one chunk: its payload fills one, of 2^24 - 1 bytes, at least.
abbrev pub RowHasManyChunks : events.Event → Found → Type 0
RowHasManyChunks event found = is_row event ≡ true → HasManyChunks found

-- What comes next of the world, of which a row is lent where it has one chunk; by any other answer none is.
abbrev pub AnswersLent : World → Result (Option LentEvent) ConnectionFault → LendingWorld → Type 0
AnswersLent old (Ok None) new = (next old ≡ Waits) × (new ≡ lending_none old)
AnswersLent old (Ok (Some (lent.Event event))) new =
    (next old ≡ Says (event_view event) new.world) × (new.row ≡ None) ×
    RowHasManyChunks (event_view event)
    (first_packet old.limits.server old.standing.number old.unread.server.bytes)
AnswersLent old (Ok (Some lent.Row)) new =
    (row : Row) × (new.row ≡ Some row) × (next old ≡ Says (Replied (RowEvent row)) new.world)
AnswersLent old (Err fault) new = FindsFault old fault new.world × (new.row ≡ None)

-- The same of an event that is no row that is lent.
abbrev pub LentHasUnclear : World → LentEvent → Type 0
LentHasUnclear w (lent.Event event) = NextHasUnclear w event
LentHasUnclear w lent.Row = Unit {0}

-- LIMITS

-- A machine is within its limits, behind a fault too.
abbrev pub IsWithinLimits : Machine → Type 0
IsWithinLimits m = WithinLimits m.world

-- It holds at most what they say, where this is the room of both sides at least.
abbrev pub HoldsAtMost : Machine → Type 0
HoldsAtMost m =
    room Client m.world.limits + room Server m.world.limits ≤ m.world.limits.held →
    held m.world ≤ m.world.limits.held
