-- A reply in the manual's words: which lists of payloads are a whole reply, and with which results.
-- The table says what becomes of any payloads, one by one; here whole lists are put together from
-- their parts. That both say the same are the laws at the end. MySQL: Client/Server Protocol,
-- "COM_QUERY Response", "Text Resultset", "Binary Protocol Resultset" and "COM_STMT_PREPARE
-- Response"; MariaDB: 'Progress report' of "ERR_Packet".
use Rattle.std.specs.Prelude.{◌≡◌, ℕ, ◌<◌, ◌≤◌, ◌^◌, List, [], ◌∷◌, ◌++◌, length, Bool, true, false, Ok}
use Rattle.std.specs.Prelude.{Option, Some, None, ◌&&◌, ◌||◌, if◌then◌else◌}
use Rattle.std.specs.List.{AllZip, AllByRecursion}
use Rattle.mysql_wire.specs.Stream.{Rest, framings}
use Rattle.mysql_wire.specs.Stream.Numbering.{OnFrom}
use Rattle.mysql_wire.specs.Stream.Rest.{Empty}
use Rattle.mysql_wire.specs.Wire.{Reading}
use Rattle.mysql_row_refs.specs.Lines.{begins_with}
use Rattle.mysql_ok_packets.specs.OkPackets.{OkPacket, ok_packet_at, old_eof_at, result_set_terminator_at}
use Rattle.mysql_ok_packets.specs.OkPackets.{more_results_exist}
use Rattle.mysql_server_packets.specs.Packets.{ServerError, PrepareOk, ProgressReport, error_at, progress_report_at}
use Rattle.mysql_columns.specs.Columns.{ColumnDefinition}
use Rattle.mysql_columns.specs.Extended.{ExtendedDefinition, extended_column_at}
pub use Rattle.mysql_rows.specs.Rows.{Row}
use Rattle.mysql_rows.specs.Rows.{as_row, binary_resultset_row_at, text_row_at}
use Rattle.mysql_reply_events.specs.Readings.{begins_ok, begins_terminator, cached_metadata, count_at, deprecate_eof}
use Rattle.mysql_reply_events.specs.Readings.{has_report_form, is_binary, mariadb, optional_metadata, prepared_at}
use Rattle.mysql_reply_events.specs.Readings.{protocol}
use Rattle.mysql_reply_events.specs.Table.{cursor_exists, has_results, is_execution}
use Rattle.mysql_reply_events.specs.declared.context.Context.{Context}
use Rattle.mysql_reply_events.specs.declared.context.ReplyKind.{ReplyKind}
use Rattle.mysql_reply_events.specs.declared.context.ReplyKind.TheVariants.{Prepare}
use Rattle.mysql_replies.specs.Together.{Outcome, OkResult, RowsResult, PreparedResult, ErrorResult, FileResult}
use Rattle.mysql_replies.specs.Reply.{Answer, IsReply, Payload, Whole}
use Rattle.mysql_replies.specs.Bytes.{IsReplyOf}

-- A payload is read as this, whatever bytes are left behind it.
abbrev pub Reads : {A : Type 0} → Reading A → A → Type 0
Reads reading value = (left : List ℕ) × (reading ≡ Ok (value, left))

abbrev pub is_prepare : ReplyKind → Bool
is_prepare Prepare = true
is_prepare kind = false

-- What this page speaks of: queries, executions and prepares whose columns always follow.
pub record IsOfManual (c : Context) : Type 0 where
  pub kind : (has_results c.kind || is_prepare c.kind) ≡ true
  pub no_optional : optional_metadata c ≡ false
  pub no_cached : cached_metadata c ≡ false

-- An OK packet: it begins with 00. Where a byte says whether columns follow, it has seven bytes at least.
pub record IsOk (c : Context) (payload : Payload) (ok : OkPacket) : Type 0 where
  pub header : begins_ok c payload ≡ true
  pub fields : Reads (ok_packet_at (protocol c) payload) ok

-- An error packet: it begins with ff.
pub record IsError (c : Context) (payload : Payload) (error : ServerError) : Type 0 where
  pub header : begins_with 255 payload ≡ true
  pub fields : Reads (error_at (protocol c) payload) error

-- A column count: a number from 1 to 65535, whose columns follow, and nothing behind it. What begins with 00, fb or ff
-- is none.
pub record IsCount (c : Context) (payload : Payload) (n : ℕ) : Type 0 where
  pub number : count_at c payload ≡ Ok ((n, true), [])
  pub some : 0 < n
  pub below : n < 65536

-- A column packet, of which the column is listed.
pub record IsColumnPacket (c : Context) (payload : Payload) (column : ColumnDefinition) : Type 0 where
  pub found : ExtendedDefinition
  pub fields : Reads (extended_column_at (mariadb c) payload) found
  pub listed : column ≡ found.column

-- Column packets, one for each column.
abbrev pub AreColumns : Context → List Payload → List ColumnDefinition → Type 0
AreColumns c payloads columns = AllZip (IsColumnPacket c) payloads columns

-- The EOF packet: it begins with fe and has fewer than nine bytes.
pub record IsEof (payload : Payload) (says : OkPacket) : Type 0 where
  pub below : length payload < 9
  pub fields : Reads (old_eof_at payload) says

-- The EOF that is due after columns, and what it says: none after no columns, none with DEPRECATE_EOF, else one packet.
pub data IsEofDue (c : Context) : List ColumnDefinition → List Payload → Option OkPacket → Type 0 where
  no_columns : IsEofDue c [] [] None
  deprecated : {columns : List ColumnDefinition} → deprecate_eof c ≡ true → IsEofDue c columns [] None
  eof : {first : ColumnDefinition} {others : List ColumnDefinition} {payload : Payload} {says : OkPacket} →
      deprecate_eof c ≡ false → IsEof payload says → IsEofDue c (first ∷ others) (payload ∷ []) (Some says)

-- So many column packets, and the EOF that is due.
pub data IsColumnGroup (c : Context) : ℕ → List Payload → List ColumnDefinition → Option OkPacket → Type 0 where
  group : (payloads end : List Payload) {columns : List ColumnDefinition} {says : Option OkPacket} →
      AreColumns c payloads columns → IsEofDue c columns end says →
      IsColumnGroup c (length columns) (payloads ++ end) columns says

-- The EOF behind the columns of an execution says that a cursor was opened, from which its rows are fetched.
abbrev pub opens_cursor : Context → Option OkPacket → Bool
opens_cursor c None = false
opens_cursor c (Some ok) = is_execution c.kind && cursor_exists ok

-- A terminator, which begins with fe: with DEPRECATE_EOF an OK packet below 16777215 bytes, else the EOF packet.
pub record IsTerminator (c : Context) (payload : Payload) (ok : OkPacket) : Type 0 where
  pub ends : begins_terminator c payload ≡ true
  pub fields : Reads (if deprecate_eof c then result_set_terminator_at (protocol c) payload
      else old_eof_at payload) ok

-- A row's reading, by the kind of the command.
abbrev pub row_at : Context → List ColumnDefinition → Payload → Reading Row
row_at c columns payload =
    as_row columns (if is_binary c.kind then binary_resultset_row_at columns payload else
    text_row_at columns payload)

-- A row is no error and no terminator, and nothing is left behind it.
pub record IsRow (c : Context) (columns : List ColumnDefinition) (payload : Payload) (row : Row) : Type 0 where
  pub no_error : begins_with 255 payload ≡ false
  pub no_terminator : begins_terminator c payload ≡ false
  pub cells : row_at c columns payload ≡ Ok (row, [])

abbrev pub AreRows : Context → List ColumnDefinition → List Payload → List Row → Type 0
AreRows c columns payloads rows = AllZip (IsRow c columns) payloads rows

-- Rows to their end, what they list, and whether another result follows: a terminator says so; an
-- error, which is a result of its own, leaves the rows without a terminator, and nothing follows
-- it.
pub data EndedRows (c : Context) (columns : List ColumnDefinition) : List Payload → List Outcome → Bool → Type 0 where
  terminated : (payloads : List Payload) {rows : List Row} {last : Payload} {ok : OkPacket} →
      AreRows c columns payloads rows → IsTerminator c last ok →
      EndedRows c columns (payloads ++ last ∷ []) (RowsResult columns rows (Some ok) ∷
      []) (more_results_exist ok.status_flags)
  failed : (payloads : List Payload) {rows : List Row} {last : Payload} {error : ServerError} →
      AreRows c columns payloads rows → IsError c last error →
      EndedRows c columns (payloads ++ last ∷ []) (RowsResult columns rows None ∷ ErrorResult error ∷ []) false

-- The payloads of a result, what it lists, and whether another follows: an OK packet says so, and the EOF of a cursor;
-- none follows an error, the request of a file or a prepared statement.
pub data IsResult (c : Context) : List Payload → List Outcome → Bool → Type 0 where
  ok : {payload : Payload} {ok : OkPacket} → has_results c.kind ≡ true → IsOk c payload ok →
      IsResult c (payload ∷ []) (OkResult ok ∷ []) (more_results_exist ok.status_flags)
  error : {payload : Payload} {error : ServerError} → IsError c payload error →
      IsResult c (payload ∷ []) (ErrorResult error ∷ []) false
  file : {name : List ℕ} → has_results c.kind ≡ true → IsResult c ((251 ∷ name) ∷ []) (FileResult name ∷ []) false
  rows : {count : Payload} {n : ℕ} (group rows : List Payload) {columns : List ColumnDefinition}
      {says : Option OkPacket} {listed : List Outcome} {more : Bool} →
      has_results c.kind ≡ true → IsCount c count n → IsColumnGroup c n group columns says →
      opens_cursor c says ≡ false → EndedRows c columns rows listed more →
      IsResult c (count ∷ group ++ rows) listed more
  cursor : {count : Payload} {n : ℕ} (group : List Payload) {columns : List ColumnDefinition} {ok : OkPacket} →
      has_results c.kind ≡ true → IsCount c count n → IsColumnGroup c n group columns (Some ok) →
      opens_cursor c (Some ok) ≡ true →
      IsResult c (count ∷ group) (RowsResult columns [] (Some ok) ∷ []) (more_results_exist ok.status_flags)
  prepared : {packet : Payload} {statement : PrepareOk} (first second : List Payload)
      {parameters columns : List ColumnDefinition} {says tells : Option OkPacket} →
      is_prepare c.kind ≡ true → begins_with 0 packet ≡ true → Reads (prepared_at c packet) (statement, true) →
      IsColumnGroup c statement.num_params first parameters says →
      IsColumnGroup c statement.num_columns second columns tells →
      IsResult c (packet ∷ first ++ second) (PreparedResult statement parameters columns ∷ []) false

-- Results one after another: another follows exactly where the one before says so.
pub data AreResults (c : Context) : List Payload → List Outcome → Type 0 where
  last : {payloads : List Payload} {listed : List Outcome} → IsResult c payloads listed false →
      AreResults c payloads listed
  followed : (payloads others : List Payload) (listed rest : List Outcome) →
      IsResult c payloads listed true → AreResults c others rest → AreResults c (payloads ++ others) (listed ++ rest)

-- Payloads, what the progress reports among them report, and the others. Each payload in a report's
-- form is read as one, and stands before one of the others: behind the last result there is
-- nothing, no report either.
pub data WithoutReports (c : Context) : List Payload → List ProgressReport → List Payload → Type 0 where
  nothing : WithoutReports c [] [] []
  other : {payload : Payload} {payloads others : List Payload} {reports : List ProgressReport} →
      has_report_form c payload ≡ false → WithoutReports c payloads reports others →
      WithoutReports c (payload ∷ payloads) reports (payload ∷ others)
  report : {payload next : Payload} {payloads others : List Payload} {report : ProgressReport}
      {reports : List ProgressReport} →
      has_report_form c payload ≡ true → Reads (progress_report_at payload) report →
      WithoutReports c payloads reports (next ∷ others) →
      WithoutReports c (payload ∷ payloads) (report ∷ reports) (next ∷ others)

-- A whole reply: its payloads without the reports are these results one after another.
pub record IsWholeReply (c : Context) (payloads : List Payload) (listed : List Outcome)
    (reports : List ProgressReport) : Type 0 where
  pub others : List Payload
  pub without_reports : WithoutReports c payloads reports others
  pub results : AreResults c others listed

-- Each such list of payloads, with nothing behind it, has the answer Whole with these results and reports.
abbrev pub EachSuchListIsWhole : Type 0
EachSuchListIsWhole = (c : Context) (payloads : List Payload) (listed : List Outcome) (reports : List ProgressReport) →
    IsWholeReply c payloads listed reports →
    IsReply c payloads Empty (record { results = listed; progress = reports; end = Whole })

-- An answer is Whole only of such a list with nothing behind it, and has its results and reports.
abbrev pub OnlySuchListsAreWhole : Type 0
OnlySuchListsAreWhole = (c : Context) (payloads : List Payload) (rest : Rest) (answer : Answer) → IsOfManual c →
    IsReply c payloads rest answer → answer.end ≡ Whole → (rest ≡ Empty) ×
    IsWholeReply c payloads answer.results answer.progress

-- The framings of a whole reply, numbered on from the first id: below 2^64 payloads, each within the limit.
pub record IsFramedReply (c : Context) (first_id limit : ℕ) (bytes : List ℕ) (listed : List Outcome)
    (reports : List ProgressReport) : Type 0 where
  pub payloads : List Payload
  pub whole : IsWholeReply c payloads listed reports
  pub few : length payloads < 2 ^ 64
  pub within : AllByRecursion (λ payload. length payload ≤ limit) payloads
  pub framed : bytes ≡ framings payloads (OnFrom first_id)

-- The framings of a whole reply have the answer Whole with its results and reports.
abbrev pub EachFramingIsWhole : Type 0
EachFramingIsWhole = (c : Context) (first_id limit : ℕ) (bytes : List ℕ) (listed : List Outcome)
    (reports : List ProgressReport) →
    IsFramedReply c first_id limit bytes listed reports →
    IsReplyOf c first_id limit bytes
    (record { results = listed; progress = reports; end = Whole })

-- Bytes have the answer Whole only where they are such framings.
abbrev pub OnlyFramingsAreWhole : Type 0
OnlyFramingsAreWhole = (c : Context) (first_id limit : ℕ) (bytes : List ℕ) (answer : Answer) → IsOfManual c →
    IsReplyOf c first_id limit bytes answer → answer.end ≡ Whole →
    IsFramedReply c first_id limit bytes answer.results answer.progress
