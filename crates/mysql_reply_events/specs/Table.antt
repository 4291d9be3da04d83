-- The table of a reply: the event that each payload is, by what is awaited, and what is awaited behind it.
-- MySQL: Client/Server Protocol, "COM_QUERY Response", "Text Resultset", "Binary Protocol Resultset", "LOCAL INFILE
-- Request", "COM_STMT_PREPARE Response", "COM_STMT_EXECUTE Response", "COM_STMT_FETCH Response", "COM_FIELD_LIST
-- Response" and "COM_STATISTICS"; MariaDB: "Result Set Packets" and 'Progress report' of "ERR_Packet".
use Rattle.std.specs.Prelude.{ℕ, zero, suc, ◌-◌, List, [], ◌∷◌, ◌++◌, length, drop, Bool, true, false, ◌==◌, ◌&&◌, ◌||◌}
use Rattle.std.specs.Prelude.{Option, Some, None, Result, Ok, Err, if◌then◌else◌}
use Rattle.mysql_fields.specs.Wire.{◌>>=◌}
use Rattle.mysql_field_constants.specs.Flags.{contains}
use Rattle.mysql_columns.specs.Columns.{ColumnDefinition}
use Rattle.mysql_ok_packets.specs.OkPackets.{OkPacket, more_results_exist}
use Rattle.mysql_row_refs.specs.Lines.{begins_with}
use Rattle.mysql_reply_events.specs.declared.context.Context.{Context}
use Rattle.mysql_reply_events.specs.declared.context.ReplyKind.{ReplyKind}
use Rattle.mysql_reply_events.specs.declared.context.ReplyKind.TheVariants as kinds
use Rattle.mysql_reply_events.specs.declared.fault.ReplyFault.{ReplyFault}
use Rattle.mysql_reply_events.specs.declared.fault.ReplyFault.TheVariants.{BadCount, BadHeader, BadRow, NotDue}
use Rattle.mysql_reply_events.specs.Events.{Awaited, Event, Group, Payload, ReplySoFar}
use Rattle.mysql_reply_events.specs.Events.Awaited.{Columns, ColumnsEnd, Fields, FileData, First, Nothing, Rows}
use Rattle.mysql_reply_events.specs.Events.Event.{ColumnEvent, ColumnsEndEvent, CountEvent, ErrorEvent, FieldEvent}
use Rattle.mysql_reply_events.specs.Events.Event.{FileEvent, LineEvent, OkEvent, PreparedEvent, ProgressEvent}
use Rattle.mysql_reply_events.specs.Events.Event.{RawRowEvent, RowEvent, RowsEndEvent}
use Rattle.mysql_reply_events.specs.Events.Group.{Parameters, ResultSet, Statement}
use Rattle.mysql_reply_events.specs.Readings.{begins_ok, begins_terminator, column, column_count, deprecate_eof, eof}
use Rattle.mysql_reply_events.specs.Readings.{field, has_report_form, optional_metadata, ok_packet, prepared, report}
use Rattle.mysql_reply_events.specs.Readings.{row, server_error, terminator}

-- What a payload leads to: its event and the reply so far; or the fault that it has no place.
abbrev pub Step : Type 0
Step = Result (Event × ReplySoFar) ReplyFault

-- An event, behind which that is awaited; the columns that stand go on standing.
abbrev pub goes_on : ReplySoFar → Event → Awaited → Step
goes_on s event next = Ok (event, record s { awaited = next })

-- Behind a result another one may follow, by its status, where the kind has results.
abbrev pub has_results : ReplyKind → Bool
has_results kinds.Text = true
has_results kinds.Binary = true
has_results kind = false

abbrev pub after_result : Context → OkPacket → Awaited
after_result c ok = if has_results c.kind && more_results_exist ok.status_flags then First else Nothing

abbrev pub is_execution : ReplyKind → Bool
is_execution kinds.Binary = true
is_execution kind = false

abbrev pub is_fetch : ReplyKind → Bool
is_fetch kinds.Fetch = true
is_fetch kind = false

-- A cursor was opened: its rows are fetched later.
abbrev pub cursor_exists : OkPacket → Bool
cursor_exists ok = contains ok.status_flags 0x40

-- COLUMNS

-- The columns of a prepared statement: so many, and whether they follow; the EOF that is due comes all the same.
abbrev pub statement_columns : Context → ℕ → Bool → Awaited
statement_columns c zero follow = Nothing
statement_columns c (suc n) true = Columns Statement n []
statement_columns c (suc n) false = if deprecate_eof c then Nothing else ColumnsEnd Statement false

-- Behind a group and its EOF; whether rows are read by the columns that stand.
abbrev pub after_group : Context → Group → Bool → Awaited
after_group c ResultSet known = Rows known
after_group c (Parameters n follow) known = statement_columns c n follow
after_group c Statement known = Nothing

-- Behind the last column of a group: the EOF that is due.
abbrev pub after_columns : Context → Group → Bool → Awaited
after_columns c group known = if deprecate_eof c then after_group c group known else ColumnsEnd group known

-- The columns of a group so far, and this one. Parameters aren't kept.
abbrev pub with_column : Group → List ColumnDefinition → ColumnDefinition → List ColumnDefinition
with_column (Parameters n follow) earlier column = earlier
with_column group earlier column = earlier ++ column ∷ []

-- The columns that stand once a group is whole.
abbrev pub standing : Group → List ColumnDefinition → Option (List ColumnDefinition) → Option (List ColumnDefinition)
standing (Parameters n follow) columns before = before
standing group columns before = Some columns

-- A column of a group came, and n more are left.
abbrev pub column_came : Context → ReplySoFar → Group → ℕ → List ColumnDefinition → ReplySoFar
column_came c s group zero columns =
    record { awaited = after_columns c group true; columns = standing group columns s.columns }
column_came c s group (suc n) columns = record s { awaited = Columns group n columns }

abbrev pub in_columns : Context → ReplySoFar → Group → ℕ → List ColumnDefinition → Payload → Step
in_columns c s group n earlier payload = do
  column ← column c payload
  Ok (ColumnEvent column, column_came c s group n (with_column group earlier column.column))

-- Behind the EOF of columns: where it says that a cursor exists it ends a binary result.
abbrev pub after_columns_end : Context → Group → Bool → OkPacket → Awaited
after_columns_end c ResultSet known ok =
    if is_execution c.kind && cursor_exists ok then after_result c ok else Rows known
after_columns_end c group known ok = after_group c group known

abbrev pub in_columns_end : Context → ReplySoFar → Group → Bool → Payload → Step
in_columns_end c s group known payload = do
  ok ← eof payload
  goes_on s (ColumnsEndEvent ok) (after_columns_end c group known ok)

-- FIRST PAYLOADS

-- The columns of a result that don't follow are those that stand, where an execution's are so many.
abbrev pub are_so_many : ℕ → Option (List ColumnDefinition) → Bool
are_so_many n None = false
are_so_many n (Some columns) = length columns == n

abbrev pub stand : Context → ℕ → Option (List ColumnDefinition) → Bool
stand c n columns = is_execution c.kind && are_so_many n columns

-- Behind a count. Where columns neither follow nor stand, MySQL's rows can't be read, and MariaDB's count is wrong.
abbrev pub after_count : Context → Option (List ColumnDefinition) → ℕ × Bool → Result Awaited ReplyFault
after_count c columns count =
    if count.1 then Ok (Columns ResultSet (count.0 - 1) [])
    else if stand c count.0 columns || optional_metadata c
    then Ok (after_columns c ResultSet (stand c count.0 columns))
    else Err BadCount

abbrev pub count_step : Context → ReplySoFar → Payload → Step
count_step c s payload = do
  count ← column_count c payload
  next ← after_count c s.columns count
  goes_on s (CountEvent count.0 count.1) next

abbrev pub ok_step : Context → ReplySoFar → Payload → Step
ok_step c s payload = do
  ok ← ok_packet c payload
  goes_on s (OkEvent ok) (after_result c ok)

abbrev pub first_of_result : Context → ReplySoFar → Payload → Step
first_of_result c s payload =
    if begins_ok c payload then ok_step c s payload
    else if begins_with 251 payload then goes_on s (FileEvent (drop 1 payload)) FileData
    else if length payload == 0 then Err BadHeader
    else count_step c s payload

-- Behind a statement packet: so many parameters and columns, and whether they follow.
abbrev pub after_statement : Context → ℕ → ℕ → Bool → Awaited
after_statement c zero columns follow = statement_columns c columns follow
after_statement c (suc n) columns true = Columns (Parameters columns true) n []
after_statement c (suc n) columns false = after_columns c (Parameters columns false) false

abbrev pub first_of_statement : Context → ReplySoFar → Payload → Step
first_of_statement c s payload =
    if begins_with 0 payload then (do
      x ← prepared c payload
      goes_on s (PreparedEvent x.0 x.1) (after_statement c x.0.num_params x.0.num_columns x.1))
    else Err BadHeader

-- What ends rows and columns of a table, and stands in an OK packet's place.
abbrev pub in_end : Context → ReplySoFar → Payload → Step
in_end c s payload = do
  ok ← terminator c payload
  goes_on s (RowsEndEvent ok) (after_result c ok)

abbrev pub plain : Context → ReplySoFar → Payload → Step
plain c s payload =
    if begins_with 0 payload then ok_step c s payload
    else if begins_terminator c payload then in_end c s payload
    else Err BadHeader

abbrev pub line : ReplySoFar → Payload → Step
line s payload = goes_on s (LineEvent payload) Nothing

-- ROWS, AND COLUMNS OF A TABLE

-- A row, by the columns that stand if it is known to be of them. Where none are, MySQL's comes as it is.
abbrev pub row_event : Context → Bool → Option (List ColumnDefinition) → Payload → Result Event ReplyFault
row_event c true (Some columns) payload = row c columns payload >>= λ found. Ok (RowEvent found)
row_event c known columns payload = if optional_metadata c then Ok (RawRowEvent payload) else Err BadRow

abbrev pub in_rows : Context → ReplySoFar → Bool → Payload → Step
in_rows c s known payload =
    if begins_terminator c payload then in_end c s payload
    else (do
      event ← row_event c known s.columns payload
      goes_on s event (Rows known))

abbrev pub in_fields : Context → ReplySoFar → Payload → Step
in_fields c s payload =
    if begins_terminator c payload then in_end c s payload
    else (do
      field ← field c payload
      goes_on s (FieldEvent field) Fields)

-- THE TABLE

-- The first payload of a reply or of a further result, but for an error, by the kind of the command.
abbrev pub first : Context → ReplySoFar → ReplyKind → Payload → Step
first c s kinds.Text payload = first_of_result c s payload
first c s kinds.Binary payload = first_of_result c s payload
first c s kinds.Prepare payload = first_of_statement c s payload
first c s kinds.Plain payload = plain c s payload
first c s kinds.Line payload = line s payload
first c s kinds.FieldList payload = in_fields c s payload
first c s kinds.Fetch payload = in_rows c s true payload

-- An error, which ends a reply, or else what else may stand there.
abbrev pub error_step : Context → ReplySoFar → Payload → Step
error_step c s payload = do
  error ← server_error c payload
  goes_on s (ErrorEvent error) Nothing

abbrev pub error_or : Context → ReplySoFar → Payload → Step → Step
error_or c s payload otherwise = if begins_with 255 payload then error_step c s payload else otherwise

-- A payload that is no progress report, by what is awaited.
abbrev pub in_place : Context → ReplySoFar → Awaited → Payload → Step
in_place c s First payload = error_or c s payload (first c s c.kind payload)
in_place c s (Columns group n earlier) payload = in_columns c s group n earlier payload
in_place c s (ColumnsEnd group known) payload = in_columns_end c s group known payload
in_place c s (Rows known) payload = error_or c s payload (in_rows c s known payload)
in_place c s Fields payload = error_or c s payload (in_fields c s payload)
in_place c s FileData payload = Err NotDue
in_place c s Nothing payload = Err NotDue

-- The server's payload is due.
abbrev pub is_due : Awaited → Bool
is_due FileData = false
is_due Nothing = false
is_due awaited = true

-- The event that a payload of the server is, and the reply so far behind it. A progress report may stand in any
-- payload's place, and changes nothing.
abbrev pub event_at : Context → ReplySoFar → Payload → Step
event_at c s payload =
    if is_due s.awaited && has_report_form c payload then (do
      report ← report payload
      Ok (ProgressEvent report, s))
    else in_place c s s.awaited payload

-- The reply so far behind a payload of the client's file: an empty one ends the file, and the reply goes on, with
-- another file, columns or an OK packet.
abbrev pub file_data_at : ReplySoFar → Awaited → Payload → Result ReplySoFar ReplyFault
file_data_at s FileData payload = if length payload == 0 then Ok (record s { awaited = First }) else Ok s
file_data_at s awaited payload = Err NotDue

-- A reply of which no payload came, to a command on a statement that last had these columns, if any.
abbrev pub fresh : Option (List ColumnDefinition) → ReplySoFar
fresh columns = record { awaited = First; columns = columns }
