-- The payload of an event, as it is written.
-- MySQL: Client/Server Protocol, "COM_QUERY Response", "Text Resultset", "Binary Protocol Resultset", "Column
-- Definition", "OK_Packet", "EOF_Packet", "ERR_Packet", "LOCAL INFILE Request" and "COM_STMT_PREPARE Response";
-- MariaDB: "Result Set Packets" and 'Progress report' of "ERR_Packet".
use Rattle.std.specs.Prelude.{ℕ, List, [], ◌∷◌, ◌++◌, Bool, true, false, Option, Some, None, if◌then◌else◌}
use Rattle.mysql_buf.specs.Writing.{lenenc_int}
use Rattle.mysql_columns.specs.Extended.{extended_column, listed_column}
use Rattle.mysql_ok_packets.specs.OkPackets.{OkPacket}
use Rattle.mysql_ok_packets.specs.Written.{eof_bytes, ok_packet_bytes}
use Rattle.mysql_rows.specs.Rows.{Row}
use Rattle.mysql_rows.specs.Written.{binary_cause, binary_row, text_cause, text_row, values_of}
use Rattle.mysql_server_packets.specs.Packets.{Error, Progress, err_packet, local_infile, prepare_ok}
use Rattle.mysql_reply_events.specs.declared.context.Context.{Context}
use Rattle.mysql_reply_events.specs.Events.{Event, Payload}
use Rattle.mysql_reply_events.specs.Events.Event.{ColumnEvent, ColumnsEndEvent, CountEvent, ErrorEvent, FieldEvent}
use Rattle.mysql_reply_events.specs.Events.Event.{FileEvent, LineEvent, OkEvent, PreparedEvent, ProgressEvent}
use Rattle.mysql_reply_events.specs.Events.Event.{RawRowEvent, RowEvent, RowsEndEvent}
use Rattle.mysql_reply_events.specs.Readings.{cached_metadata, deprecate_eof, is_binary, optional_metadata, protocol}

-- The byte that says whether columns follow.
abbrev pub follow_byte : Bool → List ℕ
follow_byte true = 1 ∷ []
follow_byte false = 0 ∷ []

-- A count of columns, and whether they follow, where that is told.
abbrev pub count_bytes : Context → ℕ → Bool → Payload
count_bytes c n follow =
    if optional_metadata c then follow_byte follow ++ lenenc_int n
    else if cached_metadata c then lenenc_int n ++ follow_byte follow
    else lenenc_int n

-- Behind a statement packet: whether its parameters and columns follow, where that is told.
abbrev pub follow_told : Context → Bool → List ℕ
follow_told c follow = if optional_metadata c then follow_byte follow else []

-- What ends rows: an OK packet with fe with DEPRECATE_EOF, else the EOF packet.
abbrev pub terminator_bytes : Context → OkPacket → Payload
terminator_bytes c ok = if deprecate_eof c then ok_packet_bytes 254 (protocol c) ok else eof_bytes ok

-- The least place of a row whose cell has no form, or was taken.
abbrev pub form_cause : Context → Row → Option ℕ
form_cause c row = if is_binary c.kind then binary_cause row.columns row.cells else text_cause row.cells

abbrev pub cells_bytes : Context → Row → Payload
cells_bytes c row =
    if is_binary c.kind then binary_row row.columns (values_of row.cells) else text_row (values_of row.cells)

-- A row has a payload where each cell has a form.
abbrev pub unless_cause : Option ℕ → Payload → Option Payload
unless_cause None payload = Some payload
unless_cause (Some place) payload = None

-- The payload of an event, where it has one.
abbrev pub event_payload : Context → Event → Option Payload
event_payload c (OkEvent ok) = Some (ok_packet_bytes 0 (protocol c) ok)
event_payload c (ErrorEvent error) = Some (err_packet (Error error))
event_payload c (ProgressEvent report) = Some (err_packet (Progress report))
event_payload c (CountEvent n follow) = Some (count_bytes c n follow)
event_payload c (ColumnEvent column) = Some (extended_column column)
event_payload c (FieldEvent column) = Some (listed_column column)
event_payload c (ColumnsEndEvent ok) = Some (eof_bytes ok)
event_payload c (RowEvent row) = unless_cause (form_cause c row) (cells_bytes c row)
event_payload c (RawRowEvent bytes) = Some bytes
event_payload c (RowsEndEvent ok) = Some (terminator_bytes c ok)
event_payload c (FileEvent name) = Some (local_infile name)
event_payload c (PreparedEvent statement follow) = Some (prepare_ok statement ++ follow_told c follow)
event_payload c (LineEvent bytes) = Some bytes
