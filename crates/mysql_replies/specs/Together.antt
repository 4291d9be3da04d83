-- What the events of a reply's payloads are, put together: results, and what came of one that isn't whole.
-- MySQL: Client/Server Protocol, "COM_QUERY Response", "Text Resultset", "Binary Protocol Resultset",
-- "COM_STMT_PREPARE Response", "COM_STMT_FETCH Response", "COM_FIELD_LIST Response" and "COM_STATISTICS"; MariaDB:
-- 'Progress report' of "ERR_Packet".
use Rattle.std.specs.Prelude.{ℕ, List, [], ◌∷◌, ◌++◌, length, nat_lt, Bool, true, if◌then◌else◌}
use Rattle.std.specs.Prelude.{Option, Some, None}
use Rattle.mysql_columns.specs.Columns.{ColumnDefinition}
use Rattle.mysql_columns.specs.Extended.{ListedDefinition}
use Rattle.mysql_ok_packets.specs.OkPackets.{OkPacket}
use Rattle.mysql_rows.specs.Rows.{Row}
use Rattle.mysql_server_packets.specs.Packets.{PrepareOk, ProgressReport, ServerError}
use Rattle.mysql_reply_events.specs.Events as events
use Rattle.mysql_reply_events.specs.Events.{Event}
use Rattle.mysql_reply_events.specs.Events.Event.{ColumnEvent, ColumnsEndEvent, CountEvent, ErrorEvent, FieldEvent}
use Rattle.mysql_reply_events.specs.Events.Event.{FileEvent, LineEvent, OkEvent, PreparedEvent, ProgressEvent}
use Rattle.mysql_reply_events.specs.Events.Event.{RawRowEvent, RowEvent, RowsEndEvent}
use Rattle.mysql_reply_events.specs.declared.context.ReplyKind.{ReplyKind}
use Rattle.mysql_reply_events.specs.declared.context.ReplyKind.TheVariants.{FieldList, Fetch}

-- A result of a reply. Rows, and columns of a table, without a packet that ends them ended by an error, or haven't
-- ended.
pub data Outcome : Type 0 where
  OkResult : OkPacket → Outcome
  RowsResult : List ColumnDefinition → List Row → Option OkPacket → Outcome
  PreparedResult : PrepareOk → List ColumnDefinition → List ColumnDefinition → Outcome
  ErrorResult : ServerError → Outcome
  FileResult : List ℕ → Outcome
  -- Rows whose columns aren't known, as they came.
  RawRowsResult : List (List ℕ) → Option OkPacket → Outcome
  -- Columns of a table.
  FieldsResult : List ListedDefinition → Option OkPacket → Outcome
  -- A text, or the first payload of a stream of its own.
  LineResult : List ℕ → Outcome

-- What came of a result that isn't whole.
pub data Part : Type 0 where
  NoPart : Part
  -- A result set whose rows aren't due yet; whether they are read by columns that are known.
  SetPart : Bool → Part
  RowsPart : List ColumnDefinition → List Row → Part
  RawRowsPart : List (List ℕ) → Part
  -- A statement: its parameters so far, and its columns.
  StatementPart : PrepareOk → List ColumnDefinition → List ColumnDefinition → Part
  FieldsPart : List ListedDefinition → Part

-- What is listed of a result that isn't whole: rows under columns that came, and of other rows what there is.
abbrev pub listed : Part → List Outcome
listed (RowsPart columns rows) = RowsResult columns rows None ∷ []
listed (RawRowsPart (row ∷ rows)) = RawRowsResult (row ∷ rows) None ∷ []
listed (FieldsPart (field ∷ fields)) = FieldsResult (field ∷ fields) None ∷ []
listed part = []

-- Results that an event makes whole, and what there is of one more behind it.
pub record Put : Type 0 where
  pub results : List Outcome
  pub part : Part

abbrev pub makes_whole : Outcome → Put
makes_whole result = record { results = result ∷ []; part = NoPart }

abbrev pub leaves_open : Part → Put
leaves_open part = record { results = []; part = part }

-- COLUMNS

-- The columns that stand; none where none do.
abbrev pub or_none : Option (List ColumnDefinition) → List ColumnDefinition
or_none None = []
or_none (Some columns) = columns

abbrev pub columns_in : events.ReplySoFar → List ColumnDefinition
columns_in s = or_none s.columns

-- Rows are read by columns that are known, where they or what stands before them is due.
abbrev pub are_known : events.Awaited → Bool
are_known (events.Rows known) = known
are_known (events.ColumnsEnd group known) = known
are_known awaited = true

-- Rows are due.
abbrev pub rows_due : Bool → List ColumnDefinition → Part
rows_due known columns = if known then RowsPart columns [] else RawRowsPart []

-- What there is of a result set, where that is due behind its count, a column or their end.
abbrev pub set_at : Bool → List ColumnDefinition → events.Awaited → Part
set_at known columns (events.Rows _) = rows_due known columns
set_at known columns awaited = SetPart known

-- Rows end by this packet.
abbrev pub ended : Part → OkPacket → Outcome
ended (RowsPart columns rows) ok = RowsResult columns rows (Some ok)
ended (RawRowsPart rows) ok = RawRowsResult rows (Some ok)
ended (FieldsPart fields) ok = FieldsResult fields (Some ok)
ended part ok = OkResult ok

-- A result set behind the EOF of its columns: its rows are due, or are fetched later from a cursor.
abbrev pub set_behind : Bool → List ColumnDefinition → OkPacket → events.Awaited → Put
set_behind known columns ok (events.Rows _) = leaves_open (rows_due known columns)
set_behind known columns ok awaited = makes_whole (ended (rows_due known columns) ok)

-- A statement is whole where nothing more is due.
abbrev pub statement_at : PrepareOk → List ColumnDefinition → List ColumnDefinition → events.Awaited → Put
statement_at statement parameters columns events.Nothing = makes_whole (PreparedResult statement parameters columns)
statement_at statement parameters columns awaited = leaves_open (StatementPart statement parameters columns)

-- A column of a statement: of its parameters, until there are as many as it says.
abbrev pub statement_with : PrepareOk → List ColumnDefinition → List ColumnDefinition → ColumnDefinition →
    events.Awaited → Put
statement_with statement parameters columns column awaited =
    if nat_lt (length parameters) statement.num_params
    then statement_at statement (parameters ++ column ∷ []) columns awaited
    else statement_at statement parameters (columns ++ column ∷ []) awaited

abbrev pub put_column : Part → ColumnDefinition → events.ReplySoFar → Put
put_column (SetPart known) column next = leaves_open (set_at known (columns_in next) next.awaited)
put_column (StatementPart statement parameters columns) column next =
    statement_with statement parameters columns column next.awaited
put_column part column next = leaves_open part

abbrev pub put_columns_end : Part → OkPacket → events.ReplySoFar → Put
put_columns_end (SetPart known) ok next = set_behind known (columns_in next) ok next.awaited
put_columns_end (StatementPart statement parameters columns) ok next =
    statement_at statement parameters columns next.awaited
put_columns_end part ok next = leaves_open part

-- ROWS

abbrev pub with_row : Part → Row → Part
with_row (RowsPart columns rows) row = RowsPart columns (rows ++ row ∷ [])
with_row part row = part

abbrev pub with_raw_row : Part → List ℕ → Part
with_raw_row (RawRowsPart rows) row = RawRowsPart (rows ++ row ∷ [])
with_raw_row part row = part

abbrev pub with_field : Part → ListedDefinition → Part
with_field (FieldsPart fields) field = FieldsPart (fields ++ field ∷ [])
with_field part field = part

-- EVENTS

-- What begins a result, where nothing came of another one; else what came stays.
abbrev pub put_whole : Part → Outcome → Put
put_whole NoPart result = makes_whole result
put_whole part result = leaves_open part

abbrev pub put_count : Part → events.ReplySoFar → Put
put_count NoPart next = leaves_open (set_at (are_known next.awaited) (columns_in next) next.awaited)
put_count part next = leaves_open part

abbrev pub put_statement : Part → PrepareOk → events.ReplySoFar → Put
put_statement NoPart statement next = statement_at statement [] [] next.awaited
put_statement part statement next = leaves_open part

-- An event, put into what came of a result. Behind it the reply has come so far.
abbrev pub put : Part → Event → events.ReplySoFar → Put
put part (OkEvent ok) next = put_whole part (OkResult ok)
put part (ErrorEvent error) next = record { results = listed part ++ ErrorResult error ∷ []; part = NoPart }
put part (ProgressEvent report) next = leaves_open part
put part (CountEvent n follow) next = put_count part next
put part (ColumnEvent found) next = put_column part found.column next
put part (FieldEvent field) next = leaves_open (with_field part field)
put part (ColumnsEndEvent ok) next = put_columns_end part ok next
put part (RowEvent row) next = leaves_open (with_row part row)
put part (RawRowEvent bytes) next = leaves_open (with_raw_row part bytes)
put part (RowsEndEvent ok) next = makes_whole (ended part ok)
put part (FileEvent name) next = put_whole part (FileResult name)
put part (PreparedEvent statement follow) next = put_statement part statement next
put part (LineEvent bytes) next = put_whole part (LineResult bytes)

-- The progress report that an event is.
abbrev pub reported : Event → List ProgressReport
reported (ProgressEvent report) = report ∷ []
reported event = []

-- What there is of the first result before its first payload: of a fetch its rows, of a table its columns.
abbrev pub fetched : Option (List ColumnDefinition) → Part
fetched None = RawRowsPart []
fetched (Some columns) = RowsPart columns []

abbrev pub first_part : ReplyKind → Option (List ColumnDefinition) → Part
first_part Fetch columns = fetched columns
first_part FieldList columns = FieldsPart []
first_part kind columns = NoPart
