-- What a call that puts a payload on a connection answers.
-- MySQL: Client/Server Protocol, "Connection Lifecycle" and "MySQL Packets".
use Rattle.std.specs.Prelude.{◌≡◌, ◌≤◌, ◌<◌, ◌&&◌, ℕ, Bool, true, false, List, length}
use Rattle.std.specs.Prelude.{None, Result, Ok, Err}
use Rattle.mysql_connection_rules.specs.Puts.{is_free, is_turn}
use Rattle.mysql_connection_rules.specs.Refusals.{Written}
use Rattle.mysql_connection_rules.specs.Events.{Event, side_of}
use Rattle.mysql_connection_rules.specs.Standing.{Standing, kept}
use Rattle.mysql_connection_rules.specs.Steps.{step, turn}
use Rattle.mysql_connection_rules.specs.Streams.{World, limit_of, room_to_keep, stream_of}
use Rattle.mysql_connection_rules.specs.declared.side.Side.{Side}
use Rattle.mysql_connection_state.specs.Views.{event_view}
use Rattle.mysql_connection_state.specs.declared.event.Event.{Event as HeldEvent}
use Rattle.mysql_connection_machine.specs.Machines.{LendingWorld, Machine, stream_in, turn_in}
use Rattle.mysql_connection_machine.specs.declared.payload_refusal.PayloadRefusal.{PayloadRefusal}
use Rattle.mysql_connection_machine.specs.declared.payload_refusal.PayloadRefusal.TheVariants.{BadPayload, Held}
use Rattle.mysql_connection_machine.specs.declared.payload_refusal.PayloadRefusal.TheVariants.{Memory, NotDue}
use Rattle.mysql_connection_machine.specs.declared.payload_refusal.PayloadRefusal.TheVariants.{TooLarge}

-- A payload of the side is due: it is its turn, its stream is open, and nothing of it waits unread.
abbrev pub awaits_payload : World → Side → Bool
awaits_payload w side = is_turn side (turn w.standing.phase) && is_free (stream_of side w.unread)

-- It is due, and within the limit of its side.
pub record IsDue (w : World) (side : Side) (payload : List ℕ) : Type 0 where
  pub awaited : awaits_payload w side ≡ true
  pub within : length payload ≤ limit_of side w.limits

-- When each refusal of a payload comes: the first that holds. Want of memory may stand in place of what comes
-- behind the first two.
abbrev pub RefusesPayload : World → Side → List ℕ → PayloadRefusal → Type 0
RefusesPayload w side payload NotDue = awaits_payload w side ≡ false
RefusesPayload w side payload TooLarge =
    (awaits_payload w side ≡ true) × (limit_of side w.limits < length payload)
RefusesPayload w side payload (BadPayload fault) =
    IsDue w side payload × (step w.standing payload ≡ Err fault)
RefusesPayload w side payload Held = IsDue w side payload ×
    (event : Event) × (after : Standing) × (step w.standing payload ≡ Ok (event, after)) ×
    (room_to_keep w.limits < kept after)
RefusesPayload w side payload Memory = IsDue w side payload

-- The packets of a payload of the side were appended, which says this event by the table of steps, and
-- the connection goes on behind them.
pub record AppendsPayload (old : World) (side : Side) (payload : List ℕ) (event : Event) (new : World)
    (before behind : List ℕ) : Type 0 where
  pub its_own : side_of event ≡ side
  pub written : Written old event payload new before behind
  pub says : step old.standing payload ≡ Ok (event, written.after)

-- A payload of the side was put, and no row is lent any more; or it was refused, and nothing has changed.
abbrev pub PutsPayloadOf : LendingWorld → Side → List ℕ → (before : List ℕ) → Result HeldEvent PayloadRefusal →
    LendingWorld → (behind : List ℕ) → Type 0
PutsPayloadOf old side payload before (Ok event) new behind =
    AppendsPayload old.world side payload (event_view event) new.world before behind × (new.row ≡ None)
PutsPayloadOf old side payload before (Err cause) new behind =
    (new ≡ old) × (behind ≡ before) × RefusesPayload old.world side payload cause

-- The same of a machine that has found no fault, and finds none.
abbrev pub PutsPayloadOn : Machine → Side → List ℕ → (before : List ℕ) → Result HeldEvent PayloadRefusal →
    Machine → (behind : List ℕ) → Type 0
PutsPayloadOn old side payload before result new behind =
    PutsPayloadOf (record { world = old.world; row = old.row }) side payload before result
    (record { world = new.world; row = new.row }) behind × (new.failure ≡ None)

-- A payload of the side was put, whatever it says, and no row is lent any more; or it was refused, and nothing has
-- changed.
abbrev pub PutsWithoutEvent : LendingWorld → Side → List ℕ → (before : List ℕ) → Result (Unit {0}) PayloadRefusal →
    LendingWorld → (behind : List ℕ) → Type 0
PutsWithoutEvent old side payload before (Ok done) new behind = (event : Event) ×
    AppendsPayload old.world side payload event new.world before behind × (new.row ≡ None)
PutsWithoutEvent old side payload before (Err cause) new behind =
    (new ≡ old) × (behind ≡ before) × RefusesPayload old.world side payload cause

-- The same of a machine that has found no fault, and finds none.
abbrev pub PutsWithoutEventOn : Machine → Side → List ℕ → (before : List ℕ) → Result (Unit {0}) PayloadRefusal →
    Machine → (behind : List ℕ) → Type 0
PutsWithoutEventOn old side payload before result new behind =
    PutsWithoutEvent (record { world = old.world; row = old.row }) side payload before result
    (record { world = new.world; row = new.row }) behind × (new.failure ≡ None)

-- A payload of the side is due of a machine: of one that has failed none is.
abbrev pub is_due_of : Machine → Side → Bool
is_due_of m side = is_turn side (turn_in m) && is_free (stream_in side m)
