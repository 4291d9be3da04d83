-- What the calls about a connection say of the object that a handle stands for.
-- MySQL: Client/Server Protocol, "Connection Lifecycle".
use Rattle.std.specs.Prelude.{◌≡◌, ℕ, List, Option, Some, None, Result, Ok, Err, IfOk, IfSome}
use Rattle.mysql_connection_machine.specs.Endings.{Ending, ending_of}
use Rattle.mysql_connection_machine.specs.Endings as ending
use Rattle.mysql_connection_machine.specs.Machines.{Answers, AnswersFault, Feeds, Machine, NextHasUnclear}
use Rattle.mysql_connection_machine.specs.Machines.{TakesBytes, both_ended, ended, failure_in, new_machine}
use Rattle.mysql_connection_machine.specs.Modes.{Knows, event_in as event_said}
use Rattle.mysql_connection_machine.specs.declared.fault.ConnectionFault.{ConnectionFault}
use Rattle.mysql_connection_machine.specs.declared.fault.FeedRefusal.{FeedRefusal}
use Rattle.mysql_connection_machine.specs.declared.fault.FeedRefusal.TheVariants as refusal
use Rattle.mysql_connection_rules.specs.declared.limits.Limits.{Limits}
use Rattle.mysql_connection_rules.specs.declared.side.Side.{Side}
use Rattle.mysql_connection_rules.specs.Streams.{Beginning, from_greeting}
use Rattle.mysql_connection_state.specs.Views.{event_view}
use Rattle.mysql_connection_state.specs.declared.event.Event.{Event}
use Rattle.mysql_c_connection.specs.declared.code.ConnectionCode.TheVariants as code
use Rattle.mysql_c_connection.specs.declared.object.Object.{Object}
use Rattle.mysql_c_connection.specs.declared.object.Object.TheVariants as object
use Rattle.mysql_c_connection.specs.declared.object.OpenConnection.{OpenConnection}
use Rattle.mysql_c_connection.specs.declared.shown.ShownConnectionEnd.{ShownConnectionEnd}
use Rattle.mysql_c_connection_events.specs.declared.shown.ShownEvent.{ShownEvent}
use Rattle.mysql_c_connection.specs.Codes.{code_number, fault_number, reason_number, side_number}
use Rattle.mysql_c_connection.specs.Events.{event_shown}
use Rattle.mysql_c_connection_events.specs.Shown.{blank_shown}

-- the object is a connection, of which this is said
abbrev pub IsOpen : Object → (OpenConnection → Type 0) → Type 0
IsOpen (object.Open c) Says = Says c
IsOpen object.Empty Says = ⊥

-- Of a connection what is said. Nothing stays nothing, and the number says why.
abbrev pub OfOpen : Object → ℕ → Object → (OpenConnection → Type 0) → Type 0
OfOpen (object.Open c) number new Says = Says c
OfOpen object.Empty number new Says = (number ≡ code_number code.EmptyHandle) × (new ≡ object.Empty)

-- The same of a call that names a side: of another number nothing changes.
abbrev pub OfSide : Option Side → Object → ℕ → Object → (Side → OpenConnection → Type 0) → Type 0
OfSide None old number new Says = (number ≡ code_number code.NoSuchSide) × (new ≡ old)
OfSide (Some side) old number new Says = OfOpen old number new (Says side)

-- a connection that begins so, of which no byte came, and no event
abbrev pub IsNewFrom : Beginning → OpenConnection → Type 0
IsNewFrom begun c = (c.connection ≡ new_machine begun) × (c.event ≡ None) × (c.end ≡ None)

-- a connection of which no byte came, and no event
abbrev pub IsNew : Limits → OpenConnection → Type 0
IsNew limits c = IsNewFrom (from_greeting limits) c

-- what a feed answers, as its number
abbrev pub refusal_number : FeedRefusal → ℕ
refusal_number refusal.Closed = code_number code.Closed
refusal_number refusal.Held = code_number code.Held
refusal_number refusal.Memory = code_number code.Memory

abbrev pub feed_number : Result (Unit {0}) FeedRefusal → ℕ
feed_number (Ok done) = 0
feed_number (Err why) = refusal_number why

-- A piece of a side's stream is taken or refused as the machine does, and the event that was told stays.
pub record IsFed (side : Side) (piece : List ℕ) (number : ℕ) (old new : OpenConnection) : Type 0 where
  pub answer : Result (Unit {0}) FeedRefusal
  pub feeds : Feeds old.connection side piece answer new.connection
  pub number_is : number ≡ feed_number answer
  pub event : new.event ≡ old.event

-- A side's stream has ended, and the event that was told stays.
abbrev pub Closes : Side → ℕ → OpenConnection → OpenConnection → Type 0
Closes side number old new =
    (number ≡ 0) × (new.connection ≡ ended side old.connection) × (new.event ≡ old.event)

-- what the machine says of an answer of the next event
pub record NextAnswers (old : Machine) (answer : Result (Option Event) ConnectionFault) (new : Machine) : Type 0 where
  pub failed : IfSome old.failure (λ failure. AnswersFault answer failure × (new ≡ old))
  pub answers : old.failure ≡ None → Answers old.world answer new.world
  pub unclear : IfOk answer (λ found. IfSome found (λ event. NextHasUnclear old.world event))
  pub row : old.failure ≡ None → new.row ≡ None
  pub fault : old.failure ≡ None → new.failure ≡ failure_in answer
  pub fewer : TakesBytes old.world answer new.world
  pub mode : Knows old (event_said answer) new

-- the event that an answer is
abbrev pub event_in : Result (Option Event) ConnectionFault → Option Event
event_in (Ok event) = event
event_in (Err fault) = None

-- the number of an answer
abbrev pub next_number : {X : Type 0} → Result (Option X) ConnectionFault → ℕ
next_number (Ok event) = 0
next_number (Err fault) = fault_number fault.fault

-- an event is shown by the statements that stand behind it; without one its kind is 0, and it is nobody's
abbrev pub IsShown : OpenConnection → Result (Option Event) ConnectionFault → ShownEvent → Type 0
IsShown new (Ok (Some event)) shown =
    shown ≡ event_shown new.connection.world.standing.statements (event_view event) shown
IsShown new (Ok None) shown = shown ≡ blank_shown 0 2 shown
IsShown new (Err fault) shown = Unit {0}

-- The machine answers what comes next, which is held and shown, or its fault's number is told.
pub record Tells (number : ℕ) (old new : OpenConnection) (shown : ShownEvent) : Type 0 where
  pub answer : Result (Option Event) ConnectionFault
  pub next : NextAnswers old.connection answer new.connection
  pub event : new.event ≡ event_in answer
  pub end : new.end ≡ None
  pub number_is : number ≡ next_number answer
  pub is_shown : IsShown new answer shown

-- what C sees of an end; what a kind doesn't have is 0
abbrev pub end_shown : Ending → ShownConnectionEnd
end_shown (ending.Over reason) = record { kind = 0; reason = reason_number reason; side = 0; fault = 0; byte = 0 }
end_shown ending.Whole = record { kind = 1; reason = 0; side = 0; fault = 0; byte = 0 }
end_shown (ending.Unfinished side) = record { kind = 2; reason = 0; side = side_number side; fault = 0; byte = 0 }
end_shown (ending.Failed f) = record {
  kind = 3;
  reason = 0;
  side = side_number f.side;
  fault = fault_number f.fault;
  byte = f.byte;
}
end_shown ending.Unread = record { kind = 4; reason = 0; side = 0; fault = 0; byte = 0 }

-- Both streams have ended, and how the connection stands is shown.
pub record Finishes (old new : OpenConnection) (shown : ShownConnectionEnd) : Type 0 where
  pub connection : new.connection ≡ both_ended old.connection
  pub event : new.event ≡ None
  pub is_shown : shown ≡ end_shown (ending_of new.connection)

-- A line is written beside; all else stays.
abbrev pub Lines : OpenConnection → OpenConnection → Type 0
Lines old new = (new.connection ≡ old.connection) × (new.event ≡ old.event) × (new.end ≡ old.end)
