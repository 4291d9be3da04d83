-- What the code holds, as values; and what its functions answer.
-- MySQL: Client/Server Protocol, "COM_QUERY Response", its packets as the code holds them.
use Rattle.std.specs.Prelude.{◌≡◌, [], Result, Ok, Err}
use Rattle.mysql_columns.specs.Views.{extended_view, listed_view}
use Rattle.mysql_fields.specs.declared.error.WireError.{WireError}
use Rattle.mysql_fields.specs.declared.error.WireError.TheVariants as wire
use Rattle.mysql_ok_packets.specs.Views.{ok_packet_view}
use Rattle.mysql_rows.specs.Views.{column_views, row_view}
use Rattle.mysql_server_packets.specs.Views.{local_infile_view, prepare_ok_view, progress_report_view}
use Rattle.mysql_server_packets.specs.Views.{server_error_view}
use Rattle.mysql_reply_events.specs.declared.awaited.Awaited.{Awaited as AwaitedOf}
use Rattle.mysql_reply_events.specs.declared.awaited.Awaited.TheVariants as awaiting
use Rattle.mysql_reply_events.specs.declared.awaited.ColumnGroup.{ColumnGroup}
use Rattle.mysql_reply_events.specs.declared.awaited.ColumnGroup.TheVariants as groups
use Rattle.mysql_reply_events.specs.declared.awaited.Due.{Due}
use Rattle.mysql_reply_events.specs.declared.awaited.Due.TheVariants as dues
use Rattle.mysql_reply_events.specs.declared.awaited.Turn.{Turn}
use Rattle.mysql_reply_events.specs.declared.awaited.Turn.TheVariants as turns
use Rattle.mysql_reply_events.specs.declared.event.ReplyEvent.{ReplyEvent}
use Rattle.mysql_reply_events.specs.declared.event.ReplyEvent.TheVariants as events
use Rattle.mysql_reply_events.specs.declared.fault.ReplyFault.{ReplyFault}
use Rattle.mysql_reply_events.specs.declared.fault.ReplyFault.TheVariants.{Memory}
use Rattle.mysql_reply_events.specs.Events.{Awaited, Event, Group}
use Rattle.mysql_reply_events.specs.Events.Awaited.{Columns, ColumnsEnd, Fields, FileData, First, Nothing, Rows}
use Rattle.mysql_reply_events.specs.Events.Event.{ColumnEvent, ColumnsEndEvent, CountEvent, ErrorEvent, FieldEvent}
use Rattle.mysql_reply_events.specs.Events.Event.{FileEvent, LineEvent, OkEvent, PreparedEvent, ProgressEvent}
use Rattle.mysql_reply_events.specs.Events.Event.{RawRowEvent, RowEvent, RowsEndEvent}
use Rattle.mysql_reply_events.specs.Events.Group.{Parameters, ResultSet, Statement}

abbrev pub event_view : ReplyEvent → Event
event_view (events.Ok ok) = OkEvent (ok_packet_view ok)
event_view (events.Error error) = ErrorEvent (server_error_view error)
event_view (events.Progress report) = ProgressEvent (progress_report_view report)
event_view (events.ColumnCount count columns_follow) = CountEvent count columns_follow
event_view (events.Column column) = ColumnEvent (extended_view column)
event_view (events.Field column) = FieldEvent (listed_view column)
event_view (events.ColumnsEnd ok) = ColumnsEndEvent (ok_packet_view ok)
event_view (events.Row row) = RowEvent (row_view row)
event_view (events.RawRow bytes) = RawRowEvent bytes.items
event_view (events.RowsEnd ok) = RowsEndEvent (ok_packet_view ok)
event_view (events.FileRequest file) = FileEvent (local_infile_view file)
event_view (events.Prepared statement columns_follow) = PreparedEvent (prepare_ok_view statement) columns_follow
event_view (events.Line bytes) = LineEvent bytes.items

abbrev pub group_view : ColumnGroup → Group
group_view groups.ResultSet = ResultSet
group_view (groups.Parameters columns follow) = Parameters columns follow
group_view groups.Statement = Statement

abbrev pub awaited_view : AwaitedOf → Awaited
awaited_view awaiting.First = First
awaited_view (awaiting.Columns group left columns) = Columns (group_view group) left (column_views columns.items)
awaited_view (awaiting.ColumnsEnd group known) = ColumnsEnd (group_view group) known
awaited_view (awaiting.Rows known) = Rows known
awaited_view awaiting.Fields = Fields
awaited_view awaiting.FileData = FileData
awaited_view awaiting.Nothing = Nothing

-- What is awaited, where no columns came before.
abbrev pub due_view : Due → Awaited
due_view dues.First = First
due_view (dues.Column group left) = Columns (group_view group) left []
due_view (dues.ColumnsEnd group known) = ColumnsEnd (group_view group) known
due_view (dues.Rows known) = Rows known
due_view dues.Fields = Fields
due_view dues.FileData = FileData
due_view dues.Nothing = Nothing

-- Whose payload is due.
abbrev pub turn_of : Awaited → Turn
turn_of FileData = turns.Client
turn_of Nothing = turns.Nobody
turn_of awaited = turns.Server

-- What a function refused is the fault, unless memory ran out.
abbrev pub Refuses : {Y : Type 0} → ReplyFault → Result Y ReplyFault → Type 0
Refuses Memory read = Unit {0}
Refuses fault read = read ≡ Err fault

-- What a function answered, seen by view, is what reading gives, unless memory ran out.
abbrev pub Gives : {X Y : Type 0} → (X → Y) → Result X ReplyFault → Result Y ReplyFault → Type 0
Gives view (Ok x) read = read ≡ Ok (view x)
Gives view (Err e) read = Refuses e read

-- A function that asks for no memory answers, seen by view, what reading gives: its refusal is the reading's.
abbrev pub Tells : {X Y : Type 0} → (X → Y) → Result X ReplyFault → Result Y ReplyFault → Type 0
Tells view (Ok x) read = read ≡ Ok (view x)
Tells view (Err e) read = read ≡ Err e

-- What a packet's reader answered, where a refusal has this name.
abbrev pub named : {X : Type 0} → Result X WireError → ReplyFault → Result X ReplyFault
named (Ok x) fault = Ok x
named (Err wire.Memory) fault = Err Memory
named (Err e) fault = Err fault

-- What a packet's reader that asks for no memory answered, where a refusal has this name.
abbrev pub refused : {X : Type 0} → Result X WireError → ReplyFault → Result X ReplyFault
refused (Ok x) fault = Ok x
refused (Err e) fault = Err fault
