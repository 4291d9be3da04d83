-- What a reader of events holds, and what its calls do.
-- MySQL: Client/Server Protocol, "COM_QUERY Response", "LOCAL INFILE Request" and "Text Resultset Row".
use Rattle.std.specs.Prelude.{◌≡◌, List, Bool, true, false, not, ◌&&◌, Option, Some, None, is_some, Result, Ok, Err}
use Rattle.mysql_columns.specs.Columns.{ColumnDefinition}
use Rattle.mysql_row_refs.specs.Lines.{is_row}
use Rattle.mysql_row_refs.specs.declared.reader.RowReader.{RowReader}
use Rattle.mysql_rows.specs.Rows.{Row}
use Rattle.mysql_reply_events.specs.declared.context.Context.{Context}
use Rattle.mysql_reply_events.specs.declared.event.ReplyEvent.{ReplyEvent}
use Rattle.mysql_reply_events.specs.declared.fault.ReplyFault.{ReplyFault}
use Rattle.mysql_reply_events.specs.declared.fault.ReplyFault.TheVariants.{Memory}
use Rattle.mysql_reply_events.specs.Events.{Awaited, Payload, ReplySoFar}
use Rattle.mysql_reply_events.specs.Events.Awaited.{First, Nothing, Rows}
use Rattle.mysql_reply_events.specs.Events.Event.{RowEvent}
use Rattle.mysql_reply_events.specs.Readings.{deprecate_eof, has_report_form}
use Rattle.mysql_reply_events.specs.Table.{event_at, file_data_at, fresh, is_fetch}
use Rattle.mysql_reply_events.specs.Standing.{RowAt}
use Rattle.mysql_reply_events.specs.Views.{event_view}

-- What a reader holds: what it reads by, the reply so far, the fault that it found, and what reads rows to be lent,
-- once one was.
pub record ReaderState : Type 0 where
  pub context : Context
  pub so_far : ReplySoFar
  pub fault : Option ReplyFault
  pub rows : Option RowReader

-- A reader of a reply of which no payload came.
abbrev pub fresh_reader : Context → Option (List ColumnDefinition) → ReaderState
fresh_reader context columns = record { context = context; so_far = fresh columns; fault = None; rows = None }

-- The reader found this fault: nothing more is awaited, and the columns that stood stand.
pub record HasFailed (old : ReaderState) (found : ReplyFault) (new : ReaderState) : Type 0 where
  pub context : new.context ≡ old.context
  pub so_far : new.so_far ≡ record old.so_far { awaited = Nothing }
  pub fault : new.fault ≡ Some found

-- The reader has found no fault, and reads by the same.
pub record GoesOn (old : ReaderState) (new : ReaderState) : Type 0 where
  pub context : new.context ≡ old.context
  pub fault : new.fault ≡ None

-- What a reader that found no fault makes of a payload of the server: its event, and it is behind it; or its fault.
-- Where memory ran out no event is known.
abbrev pub ReadsOn : ReaderState → Payload → Result ReplyEvent ReplyFault → ReaderState → Type 0
ReadsOn old payload (Ok event) new =
    (event_at old.context old.so_far payload ≡ Ok (event_view event, new.so_far)) × GoesOn old new
ReadsOn old payload (Err Memory) new = HasFailed old Memory new
ReadsOn old payload (Err fault) new =
    (event_at old.context old.so_far payload ≡ Err fault) × HasFailed old fault new

-- What the payload would be, if it were read: its event, or its fault. Where memory ran out nothing is known.
abbrev pub Peeks : ReaderState → Payload → Result ReplyEvent ReplyFault → Type 0
Peeks old payload (Ok event) =
    (next : ReplySoFar) × (event_at old.context old.so_far payload ≡ Ok (event_view event, next))
Peeks old payload (Err Memory) = Unit {0}
Peeks old payload (Err fault) = event_at old.context old.so_far payload ≡ Err fault

-- What it makes of a payload of the client's file.
abbrev pub TakesFileData : ReaderState → Payload → Result (Unit {0}) ReplyFault → ReaderState → Type 0
TakesFileData old payload (Ok _) new =
    (file_data_at old.so_far old.so_far.awaited payload ≡ Ok new.so_far) × GoesOn old new
TakesFileData old payload (Err fault) new =
    (file_data_at old.so_far old.so_far.awaited payload ≡ Err fault) × HasFailed old fault new

-- The payload is a row, which lies in it; behind it more rows are due.
pub record ReadsRow (old : ReaderState) (payload : Payload) (new : ReaderState) : Type 0 where
  pub row : Row
  pub lies : RowAt new.rows payload row
  pub event : event_at old.context old.so_far payload ≡ Ok (RowEvent row, new.so_far)
  pub awaits : new.so_far.awaited ≡ Rows true
  pub goes_on : GoesOn old new

-- What it makes of a payload of the server whose row isn't kept.
abbrev pub ReadsInPlace : ReaderState → Payload → Result (Option ReplyEvent) ReplyFault → ReaderState → Type 0
ReadsInPlace old payload (Ok None) new = ReadsRow old payload new
ReadsInPlace old payload (Ok (Some event)) new = ReadsOn old payload (Ok event) new
ReadsInPlace old payload (Err fault) new = ReadsOn old payload (Err fault) new

-- A row is due that may be lent: under columns that stand.
abbrev pub awaits_rows : Context → ReplySoFar → Awaited → Bool
awaits_rows c s (Rows true) = is_some s.columns
awaits_rows c s First = is_fetch c.kind && is_some s.columns
awaits_rows c s awaited = false

-- The payload is one in a row's place that is read as a row.
abbrev pub is_row_due : Context → ReplySoFar → Payload → Bool
is_row_due c s payload =
    awaits_rows c s s.awaited && not (has_report_form c payload) && is_row (deprecate_eof c) payload
