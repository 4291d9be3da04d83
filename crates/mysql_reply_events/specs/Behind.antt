-- The reply so far behind an event, by the event alone: what its payload leads to, whatever payload it is of.
-- MySQL: Client/Server Protocol, "COM_QUERY Response", "COM_STMT_PREPARE Response", "COM_STMT_FETCH Response",
-- "COM_FIELD_LIST Response" and "COM_STATISTICS".
use Rattle.std.specs.Prelude.{◌≡◌, ℕ, ◌-◌, List, [], Bool, true, false, Option, Ok, if◌then◌else◌}
use Rattle.mysql_columns.specs.Columns.{ColumnDefinition}
use Rattle.mysql_ok_packets.specs.OkPackets.{OkPacket}
use Rattle.mysql_reply_events.specs.declared.context.Context.{Context}
use Rattle.mysql_reply_events.specs.Events.{Awaited, Event, Payload, ReplySoFar}
use Rattle.mysql_reply_events.specs.Events.Awaited.{Columns, ColumnsEnd, Fields, FileData, First, Nothing, Rows}
use Rattle.mysql_reply_events.specs.Events.Event.{ColumnEvent, ColumnsEndEvent, CountEvent, ErrorEvent, FieldEvent}
use Rattle.mysql_reply_events.specs.Events.Event.{FileEvent, LineEvent, OkEvent, PreparedEvent, ProgressEvent}
use Rattle.mysql_reply_events.specs.Events.Event.{RawRowEvent, RowEvent, RowsEndEvent}
use Rattle.mysql_reply_events.specs.Events.Group.{ResultSet}
use Rattle.mysql_reply_events.specs.Table.{after_columns, after_columns_end, after_result, after_statement, column_came}
use Rattle.mysql_reply_events.specs.Table.{event_at, stand, with_column}

-- What is awaited behind a count: its columns, or what follows them, of those that stand or of none.
abbrev pub behind_count : Context → Option (List ColumnDefinition) → ℕ → Bool → Awaited
behind_count c columns n follow =
    if follow then Columns ResultSet (n - 1) [] else after_columns c ResultSet (stand c n columns)

-- Behind a column, which comes where one is awaited.
abbrev pub behind_column : Context → ReplySoFar → Awaited → ColumnDefinition → ReplySoFar
behind_column c s (Columns group n earlier) column = column_came c s group n (with_column group earlier column)
behind_column c s awaited column = s

-- What is awaited behind the EOF of columns, which comes where that is awaited.
abbrev pub behind_columns_end : Context → Awaited → OkPacket → Awaited
behind_columns_end c (ColumnsEnd group known) ok = after_columns_end c group known ok
behind_columns_end c awaited ok = awaited

-- What is awaited behind a row that comes as it is: where rows are, or a fetch has its first one.
abbrev pub behind_raw_row : Awaited → Awaited
behind_raw_row First = Rows true
behind_raw_row awaited = awaited

-- The reply so far behind an event, where it can come there.
abbrev pub behind : Context → ReplySoFar → Event → ReplySoFar
behind c s (OkEvent ok) = record s { awaited = after_result c ok }
behind c s (ErrorEvent error) = record s { awaited = Nothing }
behind c s (ProgressEvent report) = s
behind c s (CountEvent n follow) = record s { awaited = behind_count c s.columns n follow }
behind c s (ColumnEvent column) = behind_column c s s.awaited column.column
behind c s (FieldEvent field) = record s { awaited = Fields }
behind c s (ColumnsEndEvent ok) = record s { awaited = behind_columns_end c s.awaited ok }
behind c s (RowEvent row) = record s { awaited = Rows true }
behind c s (RawRowEvent bytes) = record s { awaited = behind_raw_row s.awaited }
behind c s (RowsEndEvent ok) = record s { awaited = after_result c ok }
behind c s (FileEvent name) = record s { awaited = FileData }
behind c s (PreparedEvent statement follow) =
    record s { awaited = after_statement c statement.num_params statement.num_columns follow }
behind c s (LineEvent bytes) = record s { awaited = Nothing }

-- The event is a column, which is kept.
abbrev pub is_column : Event → Bool
is_column (ColumnEvent column) = true
is_column event = false

-- What a payload leads to is what its event leads to.
abbrev pub EventsLeadOn : Type 0
EventsLeadOn = (c : Context) (s : ReplySoFar) (payload : Payload) (event : Event) (next : ReplySoFar) →
    event_at c s payload ≡ Ok (event, next) → next ≡ behind c s event
