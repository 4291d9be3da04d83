-- Replies as they are written: the steps of a result, each of which is written whole or not at all,
-- their payloads, and what reading makes of them. MySQL: Client/Server Protocol, "COM_QUERY
-- Response", "Text Resultset", "Binary Protocol Resultset" and "COM_STMT_PREPARE Response";
-- MariaDB: 'Progress report' of "ERR_Packet".
use Rattle.std.specs.Prelude.{ℕ, ◌%◌, ◌^◌, List, [], ◌∷◌, ◌++◌, length, map, Bool, true, false, Option, Some, None}
use Rattle.std.specs.Prelude.{◌&&◌, option_map, if◌then◌else◌}
use Rattle.std.specs.List.{flat_map}
use Rattle.std.specs.Int.RustNames.{bit_and, bit_or}
use Rattle.mysql_cells.specs.declared.value.Value.{Value}
use Rattle.mysql_buf.specs.Writing.{lenenc_int}
use Rattle.mysql_ok_packets.specs.OkPackets.{OkPacket}
use Rattle.mysql_server_packets.specs.Packets.{Error, PrepareOk, Progress, ProgressReport, ServerError, err_packet}
use Rattle.mysql_server_packets.specs.Packets.{local_infile, prepare_ok, protocol_41}
use Rattle.mysql_columns.specs.Columns.{ColumnDefinition, column}
use Rattle.mysql_rows.specs.Rows.{Row, whole_row}
use Rattle.mysql_reply_events.specs.declared.context.Context.{Context}
use Rattle.mysql_reply_events.specs.Readings.{deprecate_eof, has_reports, is_binary, optional_metadata, protocol}
use Rattle.mysql_reply_events.specs.Readings.{reports_progress}
use Rattle.mysql_replies.specs.Reply.{Payload}
use Rattle.mysql_replies.specs.Together.{ErrorResult, FileResult, OkResult, Outcome, PreparedResult, RowsResult}
use Rattle.mysql_ok_packets.specs.Written.{as_eof, as_ok, as_terminator, eof_bytes, ok_packet_bytes, with_status}
use Rattle.mysql_rows.specs.Written.{as_binary, as_text, binary_row, text_row, values_of}

-- A status that says whether another result follows, by SERVER_MORE_RESULTS_EXISTS: the writer sets
-- that bit for each result but the last one, whatever the given packet has there.
abbrev pub with_more : Bool → ℕ → ℕ
with_more true status = bit_or status 8
with_more false status = bit_and status 0xfff7

-- An OK packet whose status says whether another result follows.
abbrev pub saying : Bool → OkPacket → OkPacket
saying more ok = with_status (with_more more ok.status_flags) ok

-- What the EOF behind columns says: nothing.
abbrev pub nothing_said : OkPacket
nothing_said = record {
  affected_rows = 0;
  last_insert_id = None;
  status_flags = 0;
  warnings = 0;
  info = None;
  session_state_info = None;
}

-- The EOF that is due behind columns: none behind no columns, and none with DEPRECATE_EOF.
abbrev pub eof_due : Context → List ColumnDefinition → List Payload
eof_due c [] = []
eof_due c (first ∷ others) = if deprecate_eof c then [] else eof_bytes nothing_said ∷ []

-- Columns: a packet for each, and the EOF that is due.
abbrev pub group_payloads : Context → List ColumnDefinition → List Payload
group_payloads c columns = map column columns ++ eof_due c columns

-- MySQL's byte that says that columns follow, where optional metadata are agreed on.
abbrev pub columns_follow : Context → List ℕ
columns_follow c = if optional_metadata c then 1 ∷ [] else []

-- A count of columns, which follow.
abbrev pub count_payload : Context → ℕ → Payload
count_payload c n = columns_follow c ++ lenenc_int n

-- A row of these cells, in binary or as text.
abbrev pub cells_payload : Bool → List ColumnDefinition → List (Option Value) → Payload
cells_payload binary columns cells = if binary then binary_row columns (values_of cells) else text_row (values_of cells)

-- What ends rows: an OK packet with fe with DEPRECATE_EOF, else the EOF packet.
abbrev pub terminator_payload : Context → OkPacket → Payload
terminator_payload c ok = if deprecate_eof c then ok_packet_bytes 254 (protocol c) ok else eof_bytes ok

-- The state of an error that has none: HY000, a general error.
abbrev pub general_state : List ℕ
general_state = 72 ∷ 89 ∷ 48 ∷ 48 ∷ 48 ∷ []

-- With PROTOCOL_41 an error has a state, else none.
abbrev pub state_written : Bool → Option (List ℕ) → Option (List ℕ)
state_written false state = None
state_written true None = Some general_state
state_written true (Some state) = Some state

-- An error as it is written.
abbrev pub error_written : ℕ → ServerError → ServerError
error_written capabilities error = record error { sql_state = state_written (protocol_41 capabilities) error.sql_state }

-- A statement with the counts of these lists.
abbrev pub counting : PrepareOk → List ColumnDefinition → List ColumnDefinition → PrepareOk
counting statement parameters columns =
    record statement { num_params = length parameters; num_columns = length columns }

-- A prepared statement: its packet, and a group for each list.
abbrev pub prepared_payloads : Context → PrepareOk → List ColumnDefinition → List ColumnDefinition → List Payload
prepared_payloads c statement parameters columns =
    (prepare_ok (counting statement parameters columns) ++ columns_follow c) ∷ group_payloads c parameters ++
    group_payloads c columns

-- A progress report as it is written: in three bytes of progress.
abbrev pub report_written : ProgressReport → ProgressReport
report_written report = record report { progress = report.progress % 2 ^ 24 }

-- A step of writing a reply.
pub data Step : Type 0 where
  -- A progress report.
  ReportStep : ProgressReport → Step
  -- An OK packet, and whether another result follows.
  OkStep : Bool → OkPacket → Step
  -- Rows begin: their count of columns, and the columns.
  ColumnsStep : List ColumnDefinition → Step
  -- A row under these columns.
  RowStep : List ColumnDefinition → Row → Step
  -- Rows end, and whether another result follows.
  EndStep : Bool → OkPacket → Step
  -- An error, also in a row's place.
  ErrorStep : ServerError → Step
  -- The request of a file.
  FileStep : List ℕ → Step
  -- A prepared statement, its parameters and its columns.
  PreparedStep : PrepareOk → List ColumnDefinition → List ColumnDefinition → Step
  -- A result that is read alone: rows as they came, columns of a table or a line.
  UnwrittenStep : Step

-- The client reads progress reports, and the reply may have some.
abbrev pub tells_progress : Context → Bool
tells_progress c = has_reports c.kind && reports_progress c

-- The payloads of a step. Progress reports go only to a client that knows them: without that they are left out.
abbrev pub step_payloads : Context → Step → List Payload
step_payloads c (ReportStep report) =
    if tells_progress c then err_packet (Progress (report_written report)) ∷ [] else []
step_payloads c (OkStep more ok) = ok_packet_bytes 0 (protocol c) (saying more ok) ∷ []
step_payloads c (ColumnsStep columns) = count_payload c (length columns) ∷ group_payloads c columns
step_payloads c (RowStep columns row) = cells_payload (is_binary c.kind) columns row.cells ∷ []
step_payloads c (EndStep more ok) = terminator_payload c (saying more ok) ∷ []
step_payloads c (ErrorStep error) = err_packet (Error (error_written (protocol c) error)) ∷ []
step_payloads c (FileStep name) = local_infile name ∷ []
step_payloads c (PreparedStep statement parameters columns) = prepared_payloads c statement parameters columns
step_payloads c UnwrittenStep = []

-- The end of rows, where they have a terminator; else the error that is the next result ends them.
abbrev pub end_steps : Bool → Option OkPacket → List Step
end_steps more None = []
end_steps more (Some ok) = EndStep more ok ∷ []

-- The steps of a result, by whether another one follows it.
abbrev pub result_steps : Bool → Outcome → List Step
result_steps more (OkResult ok) = OkStep more ok ∷ []
result_steps more (RowsResult columns rows end) = ColumnsStep columns ∷ map (RowStep columns) rows ++ end_steps more end
result_steps more (PreparedResult statement parameters columns) = PreparedStep statement parameters columns ∷ []
result_steps more (ErrorResult error) = ErrorStep error ∷ []
result_steps more (FileResult name) = FileStep name ∷ []
result_steps more result = UnwrittenStep ∷ []

abbrev pub is_some_result : List Outcome → Bool
is_some_result [] = false
is_some_result (first ∷ others) = true

-- The steps of results: another one follows each but the last.
abbrev pub results_steps : List Outcome → List Step
results_steps [] = []
results_steps (first ∷ others) = result_steps (is_some_result others) first ++ results_steps others

-- The steps of a reply: its progress reports, and its results.
abbrev pub reply_steps : List Outcome → List ProgressReport → List Step
reply_steps results progress = map ReportStep progress ++ results_steps results

-- The payloads of steps.
abbrev pub steps_payloads : Context → List Step → List Payload
steps_payloads c steps = flat_map (step_payloads c) steps

-- The payloads of a reply.
abbrev pub reply_payloads : Context → List Outcome → List ProgressReport → List Payload
reply_payloads c results progress = steps_payloads c (reply_steps results progress)

-- What the cells of a row are read as, by the kind of the command.
abbrev pub cells_read : Context → List (Option Value) → List Value
cells_read c cells = if is_binary c.kind then map as_binary (values_of cells) else map as_text (values_of cells)

-- A row is read under the columns of its result.
abbrev pub row_read : Context → List ColumnDefinition → Row → Row
row_read c columns row = whole_row columns (cells_read c row.cells)

abbrev pub terminator_read : Context → OkPacket → OkPacket
terminator_read c ok = if deprecate_eof c then as_terminator (protocol c) ok else as_eof ok

-- What a result is read as, by whether another one follows it.
abbrev pub as_read : Context → Bool → Outcome → Outcome
as_read c more (OkResult ok) = OkResult (as_ok (protocol c) (saying more ok))
as_read c more (RowsResult columns rows end) =
    RowsResult columns (map (row_read c columns) rows) (option_map (λ ok. terminator_read c (saying more ok)) end)
as_read c more (PreparedResult statement parameters columns) =
    PreparedResult (counting statement parameters columns) parameters columns
as_read c more (ErrorResult error) = ErrorResult (error_written (protocol c) error)
as_read c more result = result

-- What results are read as.
abbrev pub results_read : Context → List Outcome → List Outcome
results_read c [] = []
results_read c (first ∷ others) = as_read c (is_some_result others) first ∷ results_read c others

-- The progress reports that are read: those that a client can be told.
abbrev pub reports_read : Context → List ProgressReport → List ProgressReport
reports_read c progress = if tells_progress c then map report_written progress else []
