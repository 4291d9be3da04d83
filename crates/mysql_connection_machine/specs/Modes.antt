-- What is known of the session's mode and character set behind a call.
-- MySQL Reference Manual, "Server Tracking of Client Session State"; MySQL: Client/Server Protocol, "OK_Packet".
use Rattle.std.specs.Prelude.{◌≡◌, List, ℕ, Option, Some, None, Result, Ok, Err}
use Rattle.std.specs.Option.{option_map}
use Rattle.mysql_connection_modes.specs.Modes.{ModeBehind}
use Rattle.mysql_connection_rules.specs.Events.{Event}
use Rattle.mysql_connection_rules.specs.Standing.{Standing}
use Rattle.mysql_connection_rules.specs.Steps.{step}
use Rattle.mysql_connection_state.specs.Views.{event_view}
use Rattle.mysql_connection_state.specs.declared.event.Event.{Event as HeldEvent}
use Rattle.mysql_session_modes.specs.declared.session_mode.SessionMode.{SessionMode}
use Rattle.mysql_connection_machine.specs.Machines.{Machine}
use Rattle.mysql_connection_machine.specs.declared.lent_event.LentEvent.{LentEvent}
use Rattle.mysql_connection_machine.specs.declared.lent_event.LentEvent.TheVariants as lent

-- Behind an event, where one came, behind which this stands.
abbrev pub ModeTaken : Standing → Option Event → (old new : SessionMode) → Type 0
ModeTaken s (Some event) old new = ModeBehind s event old new
ModeTaken s None old new = new ≡ old

-- The event that an answer has.
abbrev pub event_in : {E : Type 0} → Result (Option HeldEvent) E → Option Event
event_in (Ok event) = option_map event_view event
event_in (Err fault) = None

-- The event of an answer that lends rows: a row changes nothing of the session.
abbrev pub event_told : LentEvent → Option Event
event_told (lent.Event event) = Some (event_view event)
event_told lent.Row = None

abbrev pub event_lent : Option LentEvent → Option Event
event_lent (Some event) = event_told event
event_lent None = None

abbrev pub event_in_lent : {E : Type 0} → Result (Option LentEvent) E → Option Event
event_in_lent (Ok event) = event_lent event
event_in_lent (Err fault) = None

-- The event, where it was put.
abbrev pub event_put : {E : Type 0} → Event → Result (Unit {0}) E → Option Event
event_put event (Ok done) = Some event
event_put event (Err cause) = None

-- The event that a payload said, where it was put.
abbrev pub event_answered : {E : Type 0} → Result HeldEvent E → Option Event
event_answered (Ok event) = Some (event_view event)
event_answered (Err cause) = None

-- A machine knows what it did, and what the event leaves, where one came or was put.
abbrev pub Knows : Machine → Option Event → Machine → Type 0
Knows old event new = ModeTaken new.world.standing event old.mode new.mode

-- The same of a payload, whatever it says.
abbrev pub KnowsPayload : Machine → (payload : List ℕ) → Machine → Type 0
KnowsPayload old payload new = (event : Event) (after : Standing) →
    step old.world.standing payload ≡ Ok (event, after) → Knows old (Some event) new
