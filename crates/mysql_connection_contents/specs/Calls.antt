-- Histories of calls of connections: each call with its answer, by the clause of the call itself.
-- MySQL: Client/Server Protocol, "Connection Lifecycle" and "MySQL Packets".
use Rattle.std.specs.Prelude.{◌≡◌, ℕ, Bool, true, false, not, ◌&&◌, List, [], ◌∷◌, ◌++◌, Option, Some, None}
use Rattle.std.specs.Prelude.{IfSome, Result, Ok, Err}
use Rattle.std.specs.List.{flat_map, list_all}
use Rattle.mysql_cells.specs.declared.value.Value.{Value}
use Rattle.mysql_connection_machine.specs.Machines.{Answers, AnswersFault, AnswersLent, Feeds, Machine}
use Rattle.mysql_connection_machine.specs.Machines.{ended, failure_in, new_machine}
use Rattle.mysql_connection_machine.specs.PuttingExecutions.{PutsExecutionOn}
use Rattle.mysql_connection_machine.specs.PuttingPackets.{PutsAll, PutsPackets}
use Rattle.mysql_connection_machine.specs.PuttingPayloads.{PutsPayloadOn}
use Rattle.mysql_connection_machine.specs.PuttingRows.{PutsRowOn}
use Rattle.mysql_connection_machine.specs.Writing.{PutsOn}
use Rattle.mysql_connection_machine.specs.declared.fault.ConnectionFault.{ConnectionFault}
use Rattle.mysql_connection_machine.specs.declared.fault.FeedRefusal.{FeedRefusal}
use Rattle.mysql_connection_machine.specs.declared.lent_event.LentEvent.{LentEvent}
use Rattle.mysql_connection_machine.specs.declared.lent_event.LentEvent.TheVariants as lent
use Rattle.mysql_connection_machine.specs.declared.packets_refusal.PacketsRefusal.{PacketsRefusal}
use Rattle.mysql_connection_machine.specs.declared.payload_refusal.PayloadRefusal.{PayloadRefusal}
use Rattle.mysql_connection_machine.specs.declared.payload_refusal.PayloadRefusal.TheVariants as refusals
use Rattle.mysql_connection_machine.specs.declared.put_refusal.PutRefusal.{PutRefusal}
use Rattle.mysql_connection_machine.specs.declared.put_refusal.PutRefusal.TheVariants.{NotDue}
use Rattle.mysql_connection_rules.specs.Events.{Event, side_of}
use Rattle.mysql_connection_rules.specs.Events.Event.{Replied}
use Rattle.mysql_connection_rules.specs.Puts.{is_of, same_side}
use Rattle.mysql_connection_rules.specs.Streams.{Beginning, End, Piece, Streams, grow, no_bytes}
use Rattle.mysql_connection_rules.specs.declared.fault.Fault.{Fault}
use Rattle.mysql_connection_rules.specs.declared.fault.Fault.TheVariants as faults
use Rattle.mysql_connection_rules.specs.declared.side.Side.{Side}
use Rattle.mysql_connection_rules.specs.declared.side.Side.TheVariants.{Client, Server}
use Rattle.mysql_connection_state.specs.Views.{event_view}
use Rattle.mysql_connection_state.specs.declared.event.Event.{Event as HeldEvent}
use Rattle.mysql_connection_writer.specs.Executions.{execution_said}
use Rattle.mysql_connection_writer.specs.NextRows.{row_said}
use Rattle.mysql_reply_events.specs.Events.Event.{RowEvent}
use Rattle.mysql_rows.specs.Rows.{Row}

-- CALLS

-- A call of `Connection`, and what it answered.
pub data Call : Type 0 where
  Feed : Side → List ℕ → Result (Unit {0}) FeedRefusal → Call
  Close : Side → Call
  NextEvent : Result (Option HeldEvent) ConnectionFault → Call
  NextEventLent : Result (Option LentEvent) ConnectionFault → Call
  Put : Event → Result (Unit {0}) PutRefusal → Call
  PutRow : Row → Result (Unit {0}) PutRefusal → Call
  PutExecution : ℕ → List Value → Result (Unit {0}) PutRefusal → Call
  PutPayload : Side → List ℕ → Result HeldEvent PayloadRefusal → Call
  PutPackets : Side → List ℕ → Result ℕ PacketsRefusal → Call

-- A call, what it appended, and the events that it took and put.
pub record Done : Type 0 where
  pub call : Call
  pub appended : List ℕ
  pub took : List Event
  pub put : List Event

-- BY THE CLAUSES OF THE CALLS

-- Of a connection that has failed the next event is its fault.
abbrev pub Goes : {X : Type 0} → Machine → Result (Option X) ConnectionFault → Machine → Type 0 → Type 0
Goes old answer new clause =
    IfSome old.failure (λ failure. AnswersFault answer failure × (new ≡ old)) ×
    (old.failure ≡ None → clause × (new.failure ≡ failure_in answer))

-- And nothing is put on it.
abbrev pub Writes : {X E : Type 0} → Machine → Result X E → (not_due : E) → Machine → (before behind : List ℕ) →
    Type 0 → Type 0
Writes old answer not_due new before behind clause =
    IfSome old.failure (λ failure. (answer ≡ Err not_due) × (new ≡ old) × (behind ≡ before)) ×
    (old.failure ≡ None → clause)

abbrev pub taken : Result (Option HeldEvent) ConnectionFault → List Event
taken (Ok (Some event)) = event_view event ∷ []
taken answer = []

-- A row that is lent is the event that it is of.
abbrev pub taken_lent : Result (Option LentEvent) ConnectionFault → Option Row → List Event
taken_lent (Ok (Some (lent.Event event))) row = event_view event ∷ []
taken_lent (Ok (Some lent.Row)) (Some row) = Replied (RowEvent row) ∷ []
taken_lent answer row = []

abbrev pub where_ok : {X E : Type 0} → Result X E → (X → Event) → List Event
where_ok (Ok x) event = event x ∷ []
where_ok (Err e) event = []

-- The events that payloads say, as they were put.
abbrev pub said_by : (old : Machine) (side : Side) (payloads : List (List ℕ)) (before : List ℕ) (new : Machine)
    (behind : List ℕ) → PutsAll old side payloads before new behind → List Event
said_by old side [] before new behind puts = []
said_by old side (payload ∷ payloads) before new behind puts =
    puts.2.puts.0.0 ∷ said_by puts.0 side payloads puts.1 new behind puts.3

abbrev pub packets_said : (old : Machine) (side : Side) (packets before : List ℕ)
    (answer : Result ℕ PacketsRefusal) (new : Machine) (behind : List ℕ) →
    PutsPackets old side packets before answer new behind → List Event
packets_said old side packets before (Ok used) new behind puts =
    said_by old side puts.1.payloads before new behind puts.1.puts
packets_said old side packets before (Err refusal) new behind puts =
    said_by old side puts.1.payloads before new behind puts.1.puts

-- A call did what its clause says, appended to what stood there, and took and put these events.
abbrev pub DoesBy : Machine → Call → (before : List ℕ) → Machine → (behind : List ℕ) → (took put : List Event) →
    Type 0
DoesBy old (Feed side piece answer) before new behind took put =
    Feeds old side piece answer new × (behind ≡ before) × (took ≡ []) × (put ≡ [])
DoesBy old (Close side) before new behind took put =
    (new ≡ ended side old) × (behind ≡ before) × (took ≡ []) × (put ≡ [])
DoesBy old (NextEvent answer) before new behind took put =
    Goes old answer new (Answers old.world answer new.world × (new.row ≡ None)) × (behind ≡ before) ×
    (took ≡ taken answer) × (put ≡ [])
DoesBy old (NextEventLent answer) before new behind took put =
    Goes old answer new (AnswersLent old.world answer (record { world = new.world; row = new.row })) ×
    (behind ≡ before) × (took ≡ taken_lent answer new.row) × (put ≡ [])
DoesBy old (Put event answer) before new behind took put =
    Writes old answer NotDue new before behind (PutsOn old event before answer new behind) × (took ≡ []) ×
    (put ≡ where_ok answer (λ done. event))
DoesBy old (PutRow row answer) before new behind took put =
    Writes old answer NotDue new before behind (PutsRowOn old row before answer new behind) × (took ≡ []) ×
    (put ≡ where_ok answer (λ done. row_said old.world.standing row))
DoesBy old (PutExecution id values answer) before new behind took put =
    Writes old answer NotDue new before behind (PutsExecutionOn old id values before answer new behind) ×
    (took ≡ []) × (put ≡ where_ok answer (λ done. execution_said old.world.standing id values))
DoesBy old (PutPayload side payload answer) before new behind took put =
    Writes old answer refusals.NotDue new before behind
    (PutsPayloadOn old side payload before answer new behind) × (took ≡ []) ×
    (put ≡ where_ok answer event_view)
DoesBy old (PutPackets side packets answer) before new behind took put =
    (puts : PutsPackets old side packets before answer new behind) × (took ≡ []) ×
    (put ≡ packets_said old side packets before answer new behind puts)

pub record Does (old : Machine) (done : Done) (new : Machine) : Type 0 where
  pub before : List ℕ
  pub does : DoesBy old done.call before new (before ++ done.appended) done.took done.put

-- One call after another.
abbrev pub Calls : Machine → List Done → Machine → Type 0
Calls old [] new = old ≡ new
Calls old (done ∷ calls) new = (mid : Machine) × Does old done mid × Calls mid calls new

-- A connection that was new, and all calls of it.
pub record Party (begun : Beginning) : Type 0 where
  pub calls : List Done
  pub machine : Machine
  pub did : Calls (new_machine begun) calls machine

-- WHAT A HISTORY TELLS

abbrev pub put_in : List Done → List Event
put_in calls = flat_map (λ done. done.put) calls

abbrev pub events_in : List Done → List Event
events_in calls = flat_map (λ done. done.took ++ done.put) calls

-- The side of which a call puts.
abbrev pub side_put : Call → Side
side_put (Put event answer) = side_of event
side_put (PutExecution id values answer) = Client
side_put (PutPayload side payload answer) = side
side_put (PutPackets side packets answer) = side
side_put call = Server

-- What came of both sides, or was put.
abbrev pub with_call : Call → (appended : List ℕ) → Streams → Streams
with_call (Feed side piece (Ok done)) appended streams = grow side (Piece piece) streams
with_call (Feed side piece (Err refusal)) appended streams = streams
with_call (Close side) appended streams = grow side End streams
with_call (NextEvent answer) appended streams = streams
with_call (NextEventLent answer) appended streams = streams
with_call call appended streams = grow (side_put call) (Piece appended) streams

abbrev pub streams_from : Streams → List Done → Streams
streams_from streams [] = streams
streams_from streams (done ∷ calls) = streams_from (with_call done.call done.appended streams) calls

abbrev pub streams_in : List Done → Streams
streams_in calls = streams_from no_bytes calls

-- WHO CALLS

-- Who is of one side puts what is its own, and feeds what the other sends.
abbrev pub feeds_other : Side → Call → Bool
feeds_other own (Feed side piece (Ok done)) = not (same_side own side)
feeds_other own call = true

abbrev pub is_by : Side → Done → Bool
is_by own done = feeds_other own done.call && list_all (is_of own) done.put

-- No event was answered by want of memory.
abbrev pub is_memory : Fault → Bool
is_memory faults.Memory = true
is_memory fault = false

abbrev pub has_memory : Call → Bool
has_memory (NextEvent (Err fault)) = not (is_memory fault.fault)
has_memory (NextEventLent (Err fault)) = not (is_memory fault.fault)
has_memory call = true

abbrev pub all_have_memory : List Done → Bool
all_have_memory calls = list_all (λ done. has_memory done.call) calls
