-- What C sees of replies.
-- MySQL: Client/Server Protocol, "COM_QUERY Response" and "COM_STMT_PREPARE Response".
use Rattle.std.specs.Prelude.{ℕ, Bool, List, Option, Some, None, length}
use Rattle.mysql_columns.specs.Extended.{ListedDefinition}
use Rattle.mysql_reply_events.specs.Events.{Event}
use Rattle.mysql_reply_events.specs.Events.Event.{ColumnEvent, ColumnsEndEvent, CountEvent, ErrorEvent, FieldEvent}
use Rattle.mysql_reply_events.specs.Events.Event.{FileEvent, LineEvent, OkEvent, PreparedEvent, ProgressEvent}
use Rattle.mysql_reply_events.specs.Events.Event.{RawRowEvent, RowEvent, RowsEndEvent}
use Rattle.mysql_server_packets.specs.Packets.{PrepareOk, ProgressReport}
use Rattle.mysql_c_connection_events.specs.Shown.{blank_shown, data_shown, error_shown, nothing_shown, packet_shown}
use Rattle.mysql_c_connection_events.specs.Shown.{text_shown}
use Rattle.mysql_c_connection_events.specs.declared.shown.ShownEvent.{ShownEvent}

-- how far a command has come: its stage, of so many, and how far that is
abbrev pub progress_shown : ProgressReport → ShownEvent → ShownEvent
progress_shown p shown = record (nothing_shown shown) {
  kind = 22;
  side = 1;
  len = length p.progress_info;
  rows = p.stage;
  columns = p.max_stage;
  number = p.progress;
}

-- a number of columns
abbrev pub count_shown : ℕ → Bool → ShownEvent → ShownEvent
count_shown count follow shown = record (nothing_shown shown) { kind = 23; side = 1; columns = count; follows = follow }

-- the default value of a column of a table, where it has one
abbrev pub default_shown : Option (List ℕ) → ShownEvent → ShownEvent
default_shown None shown = blank_shown 25 1 shown
default_shown (Some default) shown = record (data_shown 25 1 default shown) { flags = 1 }

-- a column of a table
abbrev pub field_shown : ListedDefinition → ShownEvent → ShownEvent
field_shown field shown = default_shown field.default_value shown

-- a row of so many cells
abbrev pub row_shown : ℕ → ShownEvent → ShownEvent
row_shown cells shown = record (nothing_shown shown) { kind = 27; side = 1; columns = cells }

-- a prepared statement
abbrev pub prepared_shown : PrepareOk → Bool → ShownEvent → ShownEvent
prepared_shown p follow shown = record (nothing_shown shown) {
  kind = 31;
  side = 1;
  statement = p.statement_id;
  params = p.num_params;
  columns = p.num_columns;
  warnings = p.warning_count;
  follows = follow;
}

-- what the server replies
abbrev pub reply_shown : Event → ShownEvent → ShownEvent
reply_shown (OkEvent ok) shown = packet_shown 20 ok shown
reply_shown (ErrorEvent error) shown = error_shown 21 error shown
reply_shown (ProgressEvent report) shown = progress_shown report shown
reply_shown (CountEvent count follow) shown = count_shown count follow shown
reply_shown (ColumnEvent column) shown = blank_shown 24 1 shown
reply_shown (FieldEvent field) shown = field_shown field shown
reply_shown (ColumnsEndEvent ok) shown = packet_shown 26 ok shown
reply_shown (RowEvent row) shown = row_shown (length row.columns) shown
reply_shown (RawRowEvent bytes) shown = data_shown 28 1 bytes shown
reply_shown (RowsEndEvent ok) shown = packet_shown 29 ok shown
reply_shown (FileEvent name) shown = text_shown 30 1 name shown
reply_shown (PreparedEvent statement follow) shown = prepared_shown statement follow shown
reply_shown (LineEvent text) shown = text_shown 32 1 text shown
