-- What taking a payload of one stream answers.
-- MySQL: Client/Server Protocol, "MySQL Packets" and "Sequence ID".
use Rattle.std.specs.Prelude.{◌≡◌, ◌≢◌, ◌≤◌, ◌⊎◌, ℕ, Bool, true, false, List, drop, length, nat_le, take}
use Rattle.std.specs.Prelude.{Option, Some, None, Result, Ok, Err}
use Rattle.std.specs.Cow.{cow_slice_items}
use Rattle.std.specs.declared.borrow.CowSlice.{CowSlice}
use Rattle.std.specs.declared.borrow.CowSlice.TheVariants as slice
use Rattle.mysql_wire.specs.FirstPacket.{Found, OutOfSync, Short, TooLarge, Whole}
use Rattle.mysql_wire.specs.FirstPacket.{first_packet}
use Rattle.mysql_wire.specs.Views.{HasManyChunks}
use Rattle.mysql_connection_rules.specs.declared.fault.Fault.{Fault}
use Rattle.mysql_connection_rules.specs.declared.fault.Fault.TheVariants as faults
use Rattle.mysql_connection_rules.specs.declared.limits.Limits.{Limits}
use Rattle.mysql_connection_rules.specs.declared.side.Side.{Side}
use Rattle.mysql_connection_rules.specs.Events as events
use Rattle.mysql_connection_rules.specs.Standing.{Standing, kept}
use Rattle.mysql_connection_rules.specs.Steps.{Step}
use Rattle.mysql_connection_rules.specs.Streams.{Stream, behind, numbered, room_to_keep}
use Rattle.mysql_connection_state.specs.Follows.{LeadsTo}
use Rattle.mysql_connection_state.specs.Views.{ConnectionState, event_view}
use Rattle.mysql_connection_state.specs.declared.event.Event.{Event}
use Rattle.mysql_connection_machine.specs.Buffers.{Buffer}
use Rattle.mysql_connection_machine.specs.Machines.{RowHasManyChunks, is_row}
use Rattle.mysql_connection_machine.specs.declared.lent_event.LentEvent.{LentEvent}
use Rattle.mysql_connection_machine.specs.declared.lent_event.LentEvent.TheVariants as lent
use Rattle.mysql_connection_machine.specs.declared.taking.Packet.{Packet}
use Rattle.mysql_reply_events.specs.Events.Event.{RowEvent}
use Rattle.mysql_reply_events.specs.Standing.{RowAt}
use Rattle.mysql_rows.specs.Rows.{Row}

-- PACKETS

-- What stands first is no packet that can be read.
abbrev pub IsNoPacket : Found → Fault → Type 0
IsNoPacket found fault =
    ((found ≡ TooLarge) × (fault ≡ faults.TooLarge)) ⊎
    ((number : ℕ) × (found ≡ OutOfSync number) × (fault ≡ faults.OutOfSync number))

-- A whole packet stands first.
abbrev pub IsWhole : Found → Type 0
IsWhole found = (payload : List ℕ) × (number : ℕ) × (rest : List ℕ) × (found ≡ Whole payload number rest)

-- A payload that is lent is this one.
abbrev pub IsLentAs : {Z : Type 0} → List ℕ → CowSlice ℕ Z → Type 0
IsLentAs bytes (slice.Borrowed payload) = payload.now ≡ bytes
IsLentAs bytes (slice.Owned payload) = Unit {0}

-- The packet that stands first. Memory is asked for only where it is whole.
abbrev pub FindsIn : ℕ → ℕ → List ℕ → Result (Option Packet) Fault → Type 0
FindsIn limit number bytes (Ok None) = first_packet limit number bytes ≡ Short
FindsIn limit number bytes (Ok (Some packet)) =
    (first_packet limit number bytes ≡
    Whole (cow_slice_items packet.payload) packet.next (drop packet.used bytes)) ×
    (packet.used ≤ length bytes)
FindsIn limit number bytes (Err fault) =
    IsNoPacket (first_packet limit number bytes) fault ⊎
    ((fault ≡ faults.Memory) × IsWhole (first_packet limit number bytes))

-- A payload that is lent stands behind the header of its packet.
abbrev pub IsLentFrom : List ℕ → Result (Option Packet) Fault → Type 0
IsLentFrom bytes (Ok (Some packet)) = IsLentAs (drop 4 (take packet.used bytes)) packet.payload
IsLentFrom bytes result = Unit {0}

-- A payload is lent, or its packet has more than one chunk.
abbrev pub IsLentOrOf : {Z : Type 0} → Found → CowSlice ℕ Z → Type 0
IsLentOrOf found (slice.Borrowed payload) = Unit {0}
IsLentOrOf found (slice.Owned payload) = HasManyChunks found

-- A packet of one chunk is lent.
abbrev pub IsLentWhereOne : Found → Result (Option Packet) Fault → Type 0
IsLentWhereOne found (Ok (Some packet)) = IsLentOrOf found packet.payload
IsLentWhereOne found result = Unit {0}

-- PAYLOADS

-- What is kept behind a packet of the side has room.
abbrev pub has_room : Limits → Side → ℕ → Standing → Bool
has_room limits side number s = nat_le (kept (numbered side number s)) (room_to_keep limits)

-- The payload of an event was gone on behind, behind which this number is due, where what is kept has room; or
-- nothing has changed, for want of room or of memory.
abbrev pub GoesOnBy : Limits → Side → ℕ → ConnectionState → events.Event → List ℕ → Result (Unit {0}) Fault →
    ConnectionState → Type 0
GoesOnBy limits side number old event payload (Ok done) new =
    (after : Standing) → LeadsTo old.standing event payload after →
    (has_room limits side number after ≡ true) × (new.standing ≡ numbered side number after)
GoesOnBy limits side number old event payload (Err fault) new =
    (new ≡ old) × (fault ≢ faults.Memory → (fault ≡ faults.Held) ×
    ((after : Standing) → LeadsTo old.standing event payload after → has_room limits side number after ≡ false))

-- What the payload says leads no further: it can't be read, or more is kept than has room.
abbrev pub IsNotSaid : Limits → Side → ℕ → Step → Fault → Type 0
IsNotSaid limits side number step fault =
    (step ≡ Err fault) ⊎
    ((event : events.Event) × (s : Standing) × (step ≡ Ok (event, s)) ×
    (has_room limits side number s ≡ false) × (fault ≡ faults.Held))

-- What the payload says, by its step.
abbrev pub SaysBy : Limits → Side → ℕ → Step → Result Event Fault → Standing → Type 0
SaysBy limits side number step (Ok event) new =
    (s : Standing) × (step ≡ Ok (event_view event, s)) ×
    (has_room limits side number s ≡ true) × (new ≡ numbered side number s)
SaysBy limits side number step (Err fault) new =
    fault ≢ faults.Memory → IsNotSaid limits side number step fault

-- What the payload says, where each row lies in it: any other event is no row.
abbrev pub SaysInPlaceBy : Limits → Side → ℕ → Step → List ℕ → Result (Option Event) Fault →
    ConnectionState → Type 0
SaysInPlaceBy limits side number step payload (Ok None) new =
    (row : Row) × (s : Standing) × RowAt new.rows payload row ×
    (step ≡ Ok (events.Replied (RowEvent row), s)) × (has_room limits side number s ≡ true) ×
    (new.standing ≡ numbered side number s)
SaysInPlaceBy limits side number step payload (Ok (Some event)) new =
    SaysBy limits side number step (Ok event) new.standing × (is_row (event_view event) ≡ false)
SaysInPlaceBy limits side number step payload (Err fault) new =
    SaysBy limits side number step (Err fault) new.standing

-- ONE STREAM

-- The payload that stands first, by the packet that was found and by what payloads say. Memory is asked for only
-- where the packet is whole.
abbrev pub TakesBy : Limits → Side → (List ℕ → Step) → Found → Standing → Stream →
    Result (Option Event) Fault → Standing → Stream → Type 0
TakesBy limits side says found old stream (Ok None) new left =
    (found ≡ Short) × (new ≡ old) × (left ≡ stream)
TakesBy limits side says found old stream (Ok (Some event)) new left =
    (payload : List ℕ) × (number : ℕ) × (rest : List ℕ) × (s : Standing) ×
    (found ≡ Whole payload number rest) × (says payload ≡ Ok (event_view event, s)) ×
    (has_room limits side number s ≡ true) × (new ≡ numbered side number s) ×
    (left ≡ behind rest stream)
TakesBy limits side says found old stream (Err fault) new left =
    IsNoPacket found fault ⊎
    ((payload : List ℕ) × (number : ℕ) × (rest : List ℕ) × (found ≡ Whole payload number rest) ×
    (fault ≢ faults.Memory → IsNotSaid limits side number (says payload) fault))

-- The same, where each row that has one chunk lies in its payload, which is lent.
abbrev pub TakesLentBy : Limits → Side → (List ℕ → Step) → Found → Standing → Stream →
    Result (Option LentEvent) Fault → ConnectionState → Buffer → Type 0
TakesLentBy limits side says found old stream (Ok None) new left =
    TakesBy limits side says found old stream (Ok None) new.standing left.stream
TakesLentBy limits side says found old stream (Ok (Some (lent.Event event))) new left =
    TakesBy limits side says found old stream (Ok (Some event)) new.standing left.stream ×
    RowHasManyChunks (event_view event) found
TakesLentBy limits side says found old stream (Ok (Some lent.Row)) new left =
    (row : Row) × (number : ℕ) × (rest : List ℕ) × (s : Standing) × RowAt new.rows left.lent row ×
    (found ≡ Whole left.lent number rest) ×
    (says left.lent ≡ Ok (events.Replied (RowEvent row), s)) ×
    (has_room limits side number s ≡ true) × (new.standing ≡ numbered side number s) ×
    (left.stream ≡ behind rest stream)
TakesLentBy limits side says found old stream (Err fault) new left =
    TakesBy limits side says found old stream (Err fault) new.standing left.stream
