-- A row behind another one, as it is written without being read back.
-- MySQL: Client/Server Protocol, "Text Resultset Row" and "Binary Protocol Resultset Row".
use Rattle.std.specs.Prelude.{◌≡◌, List, ℕ, ◌++◌, length, Bool, true, false, Some, Result, Ok, Err}
use Rattle.std.specs.declared.alloc.AllocError.{AllocError}
use Rattle.mysql_columns.specs.Columns.{ColumnDefinition}
use Rattle.mysql_rows.specs.Rows.{Row}
use Rattle.mysql_reply_events.specs.declared.context.Context.{Context}
use Rattle.mysql_reply_events.specs.Events.{Payload, ReplySoFar}
use Rattle.mysql_reply_events.specs.Events.Awaited.{Rows}
use Rattle.mysql_reply_events.specs.Events.Event.{RowEvent}
use Rattle.mysql_reply_events.specs.Table.{event_at}
use Rattle.mysql_reply_event_writer.specs.Written.{event_payload}

-- The cells of a row under other columns.
abbrev pub under : List ColumnDefinition → Row → Row
under columns row = record { columns = columns; cells = row.cells }

-- Where rows of these columns are due, a payload is read as this row, behind which the same is due.
abbrev pub IsReadAmongRows : Context → Row → Payload → Type 0
IsReadAmongRows c row payload = (so_far : ReplySoFar) → so_far.awaited ≡ Rows true →
    so_far.columns ≡ Some row.columns → event_at c so_far payload ≡ Ok (RowEvent row, so_far)

-- The payload of a row of as many cells as columns was appended, and is read as it; or nothing was,
-- which says nothing of the row.
abbrev pub WritesNextRow : Context → Row → Result Bool AllocError → List ℕ → List ℕ → Type 0
WritesNextRow c row (Ok true) before after = (payload : Payload) ×
    (event_payload c (RowEvent row) ≡ Some payload) × (after ≡ before ++ payload) ×
    IsReadAmongRows c row payload × (length row.columns ≡ length row.cells)
WritesNextRow c row (Ok false) before after = after ≡ before
WritesNextRow c row (Err refused) before after = after ≡ before
