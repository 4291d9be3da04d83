-- An event that was read is put, and leads to the same again.
-- (MySQL: Client/Server Protocol, "COM_QUERY Response"; of times: "Binary Protocol Value".)
use Rattle.std.specs.Prelude.{◌≡◌, ◌<◌, ◌^◌, length, map, true, Some, Ok, ⊤}
use Rattle.mysql_buf.specs.Bytes.{AreBytes}
use Rattle.mysql_cells.specs.Values.{without_zero_sign}
use Rattle.mysql_rows.specs.Rows.{Row}
use Rattle.mysql_rows.specs.Written.{values_of}
use Rattle.mysql_reply_events.specs.declared.context.Context.{Context}
use Rattle.mysql_reply_events.specs.Events.{Event, Payload, ReplySoFar}
use Rattle.mysql_reply_events.specs.Events.Event.{RowEvent}
use Rattle.mysql_reply_events.specs.Readings.{is_binary}
use Rattle.mysql_reply_events.specs.Table.{event_at}
use Rattle.mysql_reply_event_writer.specs.Written.{event_payload}

-- no value is a time that is all zero and negative: its own cell, of no bytes, has no sign
abbrev pub HasNoZeroSign : Row → Type 0
HasNoZeroSign row = map without_zero_sign (values_of row.cells) ≡ values_of row.cells

-- of a binary row no such time was read
abbrev pub HasOwnForm : Context → Event → Type 0
HasOwnForm context (RowEvent row) = is_binary context.kind ≡ true → HasNoZeroSign row
HasOwnForm context event = ⊤

-- an event has a payload, which is read as it there, and leads to the same
abbrev pub IsPutThere : Context → ReplySoFar → Event → ReplySoFar → Type 0
IsPutThere context so_far event next =
    (payload : Payload) × (event_payload context event ≡ Some payload) ×
    (event_at context so_far payload ≡ Ok (event, next))

-- whatever the payload was that it was read of
abbrev pub ReadEventsArePut : Type 0
ReadEventsArePut = (context : Context) (so_far : ReplySoFar) (payload : Payload) (event : Event) (next : ReplySoFar) →
    AreBytes payload → length payload < 2 ^ 64 → event_at context so_far payload ≡ Ok (event, next) →
    HasOwnForm context event → IsPutThere context so_far event next
