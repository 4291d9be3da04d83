-- A row that is read where it lies, behind another one or not.
-- MySQL: Client/Server Protocol, "Text Resultset Row" and "Binary Protocol Resultset Row".
use Rattle.std.specs.Prelude.{◌≡◌, ◌⊎◌, List, ◌∷◌, Bool, true, false, nat_lt, Option, Some, None, Result, Ok, Err}
use Rattle.mysql_columns.specs.Columns.{ColumnDefinition}
use Rattle.mysql_row_refs.specs.RowRefs.{row_of}
use Rattle.mysql_row_refs.specs.declared.errors.RowError.{RowError}
use Rattle.mysql_row_refs.specs.declared.reader.RowReader.{RowReader}
use Rattle.mysql_rows.specs.Views.{row_view}
use Rattle.mysql_rows.specs.declared.row.Row.{Row as RowOf}
use Rattle.mysql_reply_events.specs.Events.{Awaited, Payload}
use Rattle.mysql_reply_events.specs.Events.Awaited.{Rows}
use Rattle.mysql_reply_events.specs.Events.Event.{RowEvent}
use Rattle.mysql_reply_events.specs.Reader.{GoesOn, ReaderState, ReadsOn, ReadsRow, is_row_due}
use Rattle.mysql_reply_events.specs.Standing.{ReadsAt, Standing}
use Rattle.mysql_reply_events.specs.Table.{event_at}
use Rattle.mysql_reply_events.specs.declared.fault.ReplyFault.{ReplyFault}
use Rattle.mysql_reply_events.specs.declared.fault.ReplyFault.TheVariants.{BadRow}

-- Rows are due by the columns that stand, and the payload begins neither as an error nor as a terminator.
abbrev pub is_next_row : Awaited → Payload → Bool
is_next_row (Rows true) (first ∷ rest) = nat_lt first 254
is_next_row awaited payload = false

-- A row was read under the columns that stand; or there is nothing yet that reads rows, or the payload is none.
abbrev pub TakesRowAt : Standing → Payload → Bool → Option RowReader → Type 0
TakesRowAt old payload true reader =
    (columns : List ColumnDefinition) × (old.columns ≡ Some columns) × ReadsAt old.format columns payload (Ok tt) reader
TakesRowAt old payload false reader = (old.reader ≡ None) ⊎
    ((columns : List ColumnDefinition) × (error : RowError) × (old.columns ≡ Some columns) ×
    (row_of old.format columns payload ≡ Err error))

-- No row is read so: none was lent yet, none is due behind another or the payload doesn't begin as one, or it is none.
abbrev pub TakesNoRow : ReaderState → Payload → Type 0
TakesNoRow old payload = (old.rows ≡ None) ⊎ ((is_next_row old.so_far.awaited payload ≡ false) ⊎
    ((old.so_far.awaited ≡ Rows true) × (event_at old.context old.so_far payload ≡ Err BadRow)))

-- The payload is a row, behind which more are due; or nothing has changed but what reads rows.
abbrev pub TakesRow : ReaderState → Payload → Bool → ReaderState → Type 0
TakesRow old payload true new = (old.so_far.awaited ≡ Rows true) × ReadsRow old payload new
TakesRow old payload false new = (new ≡ record old { rows = new.rows }) × TakesNoRow old payload

-- The payload is a row that was due, a first one too; or nothing has changed but what reads rows.
abbrev pub LendsRow : ReaderState → Payload → Bool → ReaderState → Type 0
LendsRow old payload true new = (is_row_due old.context old.so_far payload ≡ true) × ReadsRow old payload new
LendsRow old payload false new = new ≡ record old { rows = new.rows }

-- The payload is a row that was due, and is kept; or nothing has changed; or the payload has no place.
abbrev pub KeepsRow : ReaderState → Payload → Result (Option RowOf) ReplyFault → ReaderState → Type 0
KeepsRow old payload (Ok (Some row)) new =
    (event_at old.context old.so_far payload ≡ Ok (RowEvent (row_view row), new.so_far)) × GoesOn old new
KeepsRow old payload (Ok None) new = new ≡ old
KeepsRow old payload (Err fault) new = ReadsOn old payload (Err fault) new
