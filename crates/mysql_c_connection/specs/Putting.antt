-- What the calls say that put payloads and packets on a connection.
-- MySQL: Client/Server Protocol, "Connection Lifecycle" and "MySQL Packets".
use Rattle.std.specs.Prelude.{◌≡◌, ℕ, List, Option, Some, None, Result, Ok, Err, IfOk, IfSome}
use Rattle.mysql_c_handles.specs.Bytes.{IsBytes}
use Rattle.mysql_c_handles.specs.Codes.{Stays}
use Rattle.mysql_c_handles.specs.declared.object.Object.{Object as BytesObject}
use Rattle.mysql_c_handles.specs.declared.object.Object.TheVariants as held
use Rattle.mysql_connection_machine.specs.Machines.{Machine}
use Rattle.mysql_connection_machine.specs.Modes.{Knows, event_answered}
use Rattle.mysql_connection_machine.specs.PuttingPackets.{PutsPackets}
use Rattle.mysql_connection_machine.specs.PuttingPayloads.{PutsPayloadOn}
use Rattle.mysql_connection_machine.specs.PuttingSets.{PutsSets}
use Rattle.mysql_connection_machine.specs.Writing.{IsReadFrom}
use Rattle.mysql_connection_machine.specs.declared.packets_refusal.PacketsRefusal.{PacketsRefusal}
use Rattle.mysql_connection_machine.specs.declared.payload_refusal.PayloadRefusal.{PayloadRefusal}
use Rattle.mysql_connection_machine.specs.declared.payload_refusal.PayloadRefusal.TheVariants as refusals
use Rattle.mysql_connection_machine.specs.declared.sets_refusal.SetsRefusal.{SetsRefusal}
use Rattle.mysql_connection_machine.specs.declared.sets_refusal.SetsRefusal.TheVariants as sets
use Rattle.mysql_connection_rules.specs.declared.side.Side.{Side}
use Rattle.mysql_connection_state.specs.Views.{EventHasUnclear, event_view}
use Rattle.mysql_connection_state.specs.declared.event.Event.{Event}
use Rattle.mysql_c_connection.specs.Codes.{code_number, payload_refusal_number, sets_refusal_number}
use Rattle.mysql_c_connection.specs.Events.{event_shown}
use Rattle.mysql_c_connection.specs.Opened.{IsOpen}
use Rattle.mysql_c_connection.specs.declared.code.ConnectionCode.TheVariants as code
use Rattle.mysql_c_connection.specs.declared.object.Object.{Object}
use Rattle.mysql_c_connection.specs.declared.object.Object.TheVariants as object
use Rattle.mysql_c_connection.specs.declared.object.OpenConnection.{OpenConnection}
use Rattle.mysql_c_connection_events.specs.declared.shown.ShownEvent.{ShownEvent}

-- Both stay.
pub record BothStay (old : Object) (out : BytesObject) (new : Object) (out_new : BytesObject) : Type 0 where
  pub object : new ≡ old
  pub bytes : out_new ≡ out

-- Of a connection and bytes what is said. Anything else stays, and the number says why.
abbrev pub OfBoth : Object → BytesObject → ℕ → Object → BytesObject →
    (OpenConnection → List ℕ → Type 0) → Type 0
OfBoth object.Empty out number new out_new Says =
    (number ≡ code_number code.EmptyHandle) × BothStay object.Empty out new out_new
OfBoth (object.Open c) (held.Bytes bytes) number new out_new Says = Says c bytes.items
OfBoth (object.Open c) out number new out_new Says =
    (new ≡ object.Open c) × Stays out number out_new

-- The same of a call that names a side: of another number nothing changes.
abbrev pub OfSideAndBytes : Option Side → Object → BytesObject → ℕ → Object → BytesObject →
    (Side → OpenConnection → List ℕ → Type 0) → Type 0
OfSideAndBytes None old out number new out_new Says =
    (number ≡ code_number code.NoSuchSide) × BothStay old out new out_new
OfSideAndBytes (Some side) old out number new out_new Says = OfBoth old out number new out_new (Says side)

-- PAYLOADS

-- What the machine says of an answer.
pub record PayloadAnswers (old : Machine) (side : Side) (payload before : List ℕ)
    (answer : Result Event PayloadRefusal) (new : Machine) (behind : List ℕ) : Type 0 where
  pub failed : IfSome old.failure (λ failure. (answer ≡ Err refusals.NotDue) × (new ≡ old) × (behind ≡ before))
  pub puts : old.failure ≡ None → PutsPayloadOn old side payload before answer new behind
  pub read : IfOk answer (λ event. IsReadFrom old.world (event_view event) before behind new.world)
  pub unclear : IfOk answer (λ event. EventHasUnclear old.world.standing payload event)
  pub mode : Knows old (event_answered answer) new

-- The number of an answer.
abbrev pub put_number : {X : Type 0} → Result X PayloadRefusal → ℕ
put_number (Ok x) = 0
put_number (Err refusal) = payload_refusal_number refusal

-- An event that was put is held, and shown by the statements that stand behind it; else the event that was
-- told last stays.
abbrev pub IsTold : OpenConnection → Result Event PayloadRefusal → OpenConnection → ShownEvent → Type 0
IsTold old (Ok event) new shown = (new.event ≡ Some event) × (new.end ≡ None) ×
    (shown ≡ event_shown new.connection.world.standing.statements (event_view event) shown)
IsTold old (Err refusal) new shown = (new.event ≡ old.event) × (new.end ≡ old.end)

-- A payload of the side is put or refused as the machine does.
pub record IsPut (side : Side) (payload : List ℕ) (number : ℕ) (old : OpenConnection) (before : List ℕ)
    (new : OpenConnection) (behind : List ℕ) (shown : ShownEvent) : Type 0 where
  pub answer : Result Event PayloadRefusal
  pub puts : PayloadAnswers old.connection side payload before answer new.connection behind
  pub number_is : number ≡ put_number answer
  pub told : IsTold old answer new shown

-- The same of a connection and bytes that objects are.
abbrev pub IsPutIn : Side → List ℕ → ℕ → Object → BytesObject → ShownEvent → OpenConnection → List ℕ → Type 0
IsPutIn side payload number new out shown old before = IsOpen new (λ c. IsBytes out (λ behind.
    IsPut side payload number old before c behind shown))

-- PACKETS

abbrev pub packets_number : Result ℕ PacketsRefusal → ℕ
packets_number (Ok used) = 0
packets_number (Err refusal) = payload_refusal_number refusal.cause

abbrev pub used_in : Result ℕ PacketsRefusal → ℕ
used_in (Ok used) = used
used_in (Err refusal) = refusal.used

-- The payloads of packets of the side are put as the machine does, and it is told how many bytes of the
-- packets were taken; the event that was told last stays.
pub record ArePut (side : Side) (packets : List ℕ) (number : ℕ) (old : OpenConnection) (before : List ℕ)
    (new : OpenConnection) (behind : List ℕ) (used : ℕ) : Type 0 where
  pub answer : Result ℕ PacketsRefusal
  pub puts : PutsPackets old.connection side packets before answer new.connection behind
  pub number_is : number ≡ packets_number answer
  pub used_is : used ≡ used_in answer
  pub event : new.event ≡ old.event
  pub end : new.end ≡ old.end

-- The same of a connection and bytes that objects are.
abbrev pub ArePutIn : Side → List ℕ → ℕ → Object → BytesObject → (used : ℕ) → OpenConnection → List ℕ → Type 0
ArePutIn side packets number new out used old before = IsOpen new (λ c. IsBytes out (λ behind.
    ArePut side packets number old before c behind used))

-- SETS OF A QUERY

abbrev pub sets_number : Result ℕ SetsRefusal → ℕ
sets_number (Ok used) = 0
sets_number (Err refusal) = sets_refusal_number refusal

-- No packet is taken of sets that are refused for their count.
abbrev pub used_of_sets : Result ℕ SetsRefusal → ℕ
used_of_sets (Ok used) = used
used_of_sets (Err (sets.Packets refusal)) = refusal.used
used_of_sets (Err refusal) = 0

-- Packets of a query's sets are put as the machine does, where the server counted as many parameters as the query
-- has places; the event that was told last stays.
pub record SetsArePut (id places : ℕ) (packets : List ℕ) (number : ℕ) (old : OpenConnection) (before : List ℕ)
    (new : OpenConnection) (behind : List ℕ) (used : ℕ) : Type 0 where
  pub answer : Result ℕ SetsRefusal
  pub puts : PutsSets old.connection id places packets before answer new.connection behind
  pub number_is : number ≡ sets_number answer
  pub used_is : used ≡ used_of_sets answer
  pub event : new.event ≡ old.event
  pub end : new.end ≡ old.end

-- The same of a connection and bytes that objects are.
abbrev pub SetsArePutIn : (id places : ℕ) → List ℕ → ℕ → Object → BytesObject → (used : ℕ) → OpenConnection →
    List ℕ → Type 0
SetsArePutIn id places packets number new out used old before = IsOpen new (λ c. IsBytes out (λ behind.
    SetsArePut id places packets number old before c behind used))
