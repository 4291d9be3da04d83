-- What a call that puts an event on a connection answers.
-- MySQL: Client/Server Protocol, "Connection Lifecycle" and "MySQL Packets".
use Rattle.std.specs.Prelude.{◌≡◌, ◌+◌, ◌≤◌, ◌<◌, ℕ, List, ◌∷◌, ◌++◌, drop, length, take, Some, None, Result, Ok, Err}
use Rattle.mysql_connection_rules.specs.PuttingMachines.{Puts}
use Rattle.mysql_connection_rules.specs.Puts.{packets_for, passed, put_on, step_for}
use Rattle.mysql_connection_rules.specs.Refusals as refusals
use Rattle.mysql_connection_rules.specs.Refusals.{Refuses, Written}
use Rattle.mysql_connection_rules.specs.Events.{Event, side_of}
use Rattle.mysql_connection_rules.specs.Standing.{Standing, kept}
use Rattle.mysql_connection_rules.specs.Streams.{World, numbered, room_to_keep, stream_of, with_stream}
use Rattle.mysql_connection_rules.specs.declared.side.Side.{Side}
use Rattle.mysql_connection_writer.specs.Payloads.{cause_of, payload_of}
use Rattle.mysql_connection_writer.specs.Writes.{Says}
use Rattle.mysql_connection_writer.specs.declared.refusal.EventRefusal.{EventRefusal}
use Rattle.mysql_connection_writer.specs.declared.refusal.EventRefusal.TheVariants as writing
use Rattle.mysql_connection_machine.specs.Machines.{LendingWorld, Machine, lending_none}
use Rattle.mysql_connection_machine.specs.declared.put_refusal.PutRefusal.{PutRefusal}
use Rattle.mysql_connection_machine.specs.declared.put_refusal.PutRefusal.TheVariants.{BadEvent, Held, Memory, NotDue}
use Rattle.mysql_connection_machine.specs.declared.put_refusal.PutRefusal.TheVariants.{TooLarge}

-- Behind it more is kept than has room.
abbrev pub IsNotHeld : World → Event → List ℕ → Type 0
IsNotHeld w event payload = (after : Standing) × (step_for event w.standing payload ≡ Ok (event, after)) ×
    (room_to_keep w.limits < kept after)

-- So many bytes more of the side were read, which never waited, and this number is due, behind what
-- stands then.
abbrev pub passed_by : World → Side → (next count : ℕ) → Standing → World
passed_by w side next count after = record {
  limits = w.limits;
  standing = numbered side next after;
  unread = with_stream side (passed count (stream_of side w.unread)) w.unread;
}

-- What stands is what a payload of an event leaves, where what is kept then has room; or nothing has
-- changed.
abbrev pub StandsBehind : LendingWorld → Event → List ℕ → Result (Unit {0}) PutRefusal →
    LendingWorld → Type 0
StandsBehind old event payload (Ok done) new = (after : Standing) ×
    (step_for event old.world.standing payload ≡ Ok (event, after)) ×
    (kept after ≤ room_to_keep old.world.limits) ×
    (new ≡ lending_none (record old.world { standing = after }))
StandsBehind old event payload (Err Held) new = (new ≡ old) × IsNotHeld old.world event payload
StandsBehind old event payload (Err Memory) new = new ≡ old
StandsBehind old event payload (Err cause) new = ⊥

-- The connection goes on behind a payload of an event, which took so many bytes in its packets: what stands behind it,
-- where what is kept then has room.
abbrev pub GoesOnBehind : LendingWorld → Event → List ℕ → (next count : ℕ) → Result (Unit {0}) PutRefusal →
    LendingWorld → Type 0
GoesOnBehind old event payload next count (Ok done) new = (after : Standing) ×
    (step_for event old.world.standing payload ≡ Ok (event, after)) ×
    (kept after ≤ room_to_keep old.world.limits) ×
    (new ≡ lending_none (passed_by old.world (side_of event) next count after))
GoesOnBehind old event payload next count (Err Held) new = (new ≡ old) × IsNotHeld old.world event payload
GoesOnBehind old event payload next count (Err Memory) new = new ≡ old
GoesOnBehind old event payload next count (Err cause) new = ⊥

-- The packets of a payload of an event were appended, and the connection goes on behind them.
abbrev pub PutsPayload : LendingWorld → Event → List ℕ → List ℕ → Result (Unit {0}) PutRefusal → LendingWorld →
    List ℕ → Type 0
PutsPayload old event payload before (Ok done) new behind = (after : Standing) ×
    (step_for event old.world.standing payload ≡ Ok (event, after)) ×
    (kept after ≤ room_to_keep old.world.limits) ×
    (new ≡ lending_none (put_on old.world event payload after)) ×
    (behind ≡ before ++ packets_for event old.world.standing payload)
PutsPayload old event payload before (Err Held) new behind =
    (new ≡ old) × (behind ≡ before) × IsNotHeld old.world event payload
PutsPayload old event payload before (Err Memory) new behind = (new ≡ old) × (behind ≡ before)
PutsPayload old event payload before (Err cause) new behind = ⊥

-- The same of a payload that stands in a buffer behind room for a header at this place. After a
-- refusal the buffer begins as it did.
abbrev pub PutsBehind : LendingWorld → Event → ℕ → List ℕ → Result (Unit {0}) PutRefusal →
    LendingWorld → List ℕ → Type 0
PutsBehind old event start held (Ok done) new behind =
    PutsPayload old event (drop (start + 4) held) (take start held) (Ok done) new behind
PutsBehind old event start held (Err cause) new behind =
    PutsPayload old event (drop (start + 4) held) (take start held) (Err cause) new (take start behind)

-- When each refusal of an event comes, by its payload: the first that holds. Want of memory may stand in place of any.
abbrev pub RefusesEvent : World → Event → PutRefusal → Type 0
RefusesEvent w event NotDue = Refuses w event (payload_of w.standing event) refusals.NotDue
RefusesEvent w event (BadEvent cause) =
    Refuses w event (payload_of w.standing event) refusals.BadEvent × (cause ≡ cause_of w.standing event)
RefusesEvent w event TooLarge = Refuses w event (payload_of w.standing event) refusals.TooLarge
RefusesEvent w event Held = Refuses w event (payload_of w.standing event) refusals.Held
RefusesEvent w event Memory = Unit {0}

-- What a writer's refusal is here.
abbrev pub refused_as : EventRefusal → PutRefusal
refused_as (writing.BadEvent cause) = BadEvent cause
refused_as writing.Memory = Memory

-- The payload of an event that is due was appended behind room for a header; or it was refused, and
-- the buffer begins as it did.
abbrev pub WritesBehindRoom : World → Event → List ℕ → Result (Unit {0}) PutRefusal → List ℕ → Type 0
WritesBehindRoom w event before (Ok done) behind = (payload : List ℕ) × (payload_of w.standing event ≡ Some payload) ×
    Says w.standing event payload × (behind ≡ before ++ (0 ∷ 0 ∷ 0 ∷ 0 ∷ payload))
WritesBehindRoom w event before (Err cause) behind =
    RefusesEvent w event cause × (take (length before) behind ≡ before)

-- The event's payload was appended in its packets, and the connection goes on behind it.
abbrev pub AppendsEvent : World → Event → World → List ℕ → List ℕ → Type 0
AppendsEvent old event new before behind = (payload : List ℕ) ×
    (payload_of old.standing event ≡ Some payload) × Written old event payload new before behind

-- An event was put, and no row is lent any more; or it was refused, and nothing has changed.
abbrev pub PutsEvent : LendingWorld → Event → List ℕ → Result (Unit {0}) PutRefusal → LendingWorld → List ℕ →
    Type 0
PutsEvent old event before (Ok done) new behind =
    AppendsEvent old.world event new.world before behind × (new.row ≡ None)
PutsEvent old event before (Err cause) new behind =
    (new ≡ old) × (behind ≡ before) × RefusesEvent old.world event cause

-- The same of an event that is due, but that after a refusal the buffer may hold more than it did.
abbrev pub PutsDue : LendingWorld → Event → List ℕ → Result (Unit {0}) PutRefusal → LendingWorld → List ℕ → Type 0
PutsDue old event before (Ok done) new behind = PutsEvent old event before (Ok done) new behind
PutsDue old event before (Err cause) new behind =
    (new ≡ old) × (take (length before) behind ≡ before) × RefusesEvent old.world event cause

-- The same of a machine that has found no fault, and finds none.
abbrev pub PutsOn : Machine → Event → List ℕ → Result (Unit {0}) PutRefusal → Machine → List ℕ → Type 0
PutsOn old event before result new behind =
    PutsEvent (record { world = old.world; row = old.row }) event before result
    (record { world = new.world; row = new.row }) behind × (new.failure ≡ None)

-- What was appended is read as the event, once it has come of its side, and nothing of it is left.
abbrev pub IsReadFrom : World → Event → List ℕ → List ℕ → World → Type 0
IsReadFrom old event before behind new =
    (bytes : List ℕ) × (behind ≡ before ++ bytes) × Puts old event (side_of event) bytes new
