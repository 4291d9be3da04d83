-- Rows behind others: another one changes nothing of what stands.
-- MySQL: Client/Server Protocol, "Text Resultset Row" and "Binary Protocol Resultset Row".
use Rattle.std.specs.Prelude.{◌≡◌, ◌==◌, List, ℕ, ◌++◌, length, Bool, true, false, if◌then◌else◌}
use Rattle.std.specs.Prelude.{Option, Some, None, Result, Ok, Err}
use Rattle.std.specs.declared.alloc.AllocError.{AllocError}
use Rattle.mysql_columns.specs.Columns.{ColumnDefinition}
use Rattle.mysql_connection_rules.specs.Puts.{step_for}
use Rattle.mysql_connection_rules.specs.Events.{Event}
use Rattle.mysql_connection_rules.specs.Events.Event.{Replied}
use Rattle.mysql_connection_rules.specs.Standing.{About, InReply, Phase, Standing}
use Rattle.mysql_connection_rules.specs.Standing as phases
use Rattle.mysql_connection_rules.specs.Steps.{about_after}
use Rattle.mysql_reply_events.specs.Events.Awaited.{Rows}
use Rattle.mysql_reply_events.specs.Events.Event.{RowEvent}
use Rattle.mysql_reply_event_writer.specs.NextRows.{under}
use Rattle.mysql_rows.specs.Rows.{Row}
use Rattle.mysql_connection_writer.specs.Payloads.{Payload, payload_of}

-- A row changes nothing of what the reply is about.
abbrev pub IsAnswered : About → Type 0
IsAnswered about = (row : Row) → about_after about (RowEvent row) ≡ about

-- Rows of a reply are due behind others.
abbrev pub IsAmongRows : Standing → Type 0
IsAmongRows s =
    (r : InReply) × (s.phase ≡ phases.Reply r) × (r.so_far.awaited ≡ Rows true) × IsAnswered r.about

-- The columns by which rows of the reply are read.
abbrev pub columns_due : Phase → Option (List ColumnDefinition)
columns_due (phases.Reply r) = r.so_far.columns
columns_due phase = None

-- The cells of a row under columns that are as many, else under its own.
abbrev pub under_as_many : Option (List ColumnDefinition) → Row → Row
under_as_many None row = row
under_as_many (Some columns) row = if length columns == length row.cells then under columns row else row

-- A row's cells under the columns of the reply that is due.
abbrev pub row_due : Standing → Row → Row
row_due s row = under_as_many (columns_due s.phase) row

abbrev pub row_said : Standing → Row → Event
row_said s row = Replied (RowEvent (row_due s row))

-- The payload of a row under the columns that are due was appended, which says the row and changes
-- nothing of what stands; or nothing was, which says nothing of the row.
abbrev pub WritesNextRow : Standing → Row → (old new : List ℕ) → Result Bool AllocError → Type 0
WritesNextRow s row old new (Ok true) = (payload : Payload) ×
    (payload_of s (row_said s row) ≡ Some payload) × (new ≡ old ++ payload) ×
    (step_for (row_said s row) s payload ≡ Ok (row_said s row, s))
WritesNextRow s row old new (Ok false) = new ≡ old
WritesNextRow s row old new (Err refused) = new ≡ old

-- Behind a row rows are due, whatever the payload was that said it.
abbrev pub RowsLeadToRows : Type 0
RowsLeadToRows = (s after : Standing) (row : Row) (payload : Payload) →
    step_for (Replied (RowEvent row)) s payload ≡ Ok (Replied (RowEvent row), after) → IsAmongRows after
