-- Payloads that begin a reply, and what is listed of them at least: each result and each row whose payloads stand.
-- MySQL: Client/Server Protocol, "COM_QUERY Response", "Text Resultset", "Binary Protocol Resultset" and
-- "COM_STMT_PREPARE Response"; MariaDB: 'Progress report' of "ERR_Packet".
use Rattle.std.specs.Prelude.{◌≡◌, ℕ, List, [], ◌∷◌, ◌++◌, true, false, Option, None}
use Rattle.mysql_wire.specs.Stream.{Rest}
use Rattle.mysql_ok_packets.specs.OkPackets.{OkPacket}
use Rattle.mysql_server_packets.specs.Packets.{ProgressReport, progress_report_at}
use Rattle.mysql_columns.specs.Columns.{ColumnDefinition}
use Rattle.mysql_rows.specs.Rows.{Row}
use Rattle.mysql_reply_events.specs.Readings.{has_report_form}
use Rattle.mysql_reply_events.specs.Table.{has_results}
use Rattle.mysql_reply_events.specs.declared.context.Context.{Context}
use Rattle.mysql_replies.specs.Together.{Outcome, RowsResult}
use Rattle.mysql_replies.specs.Reply.{Answer, IsReply, Payload}
use Rattle.mysql_replies.specs.Manual.{Reads, AreRows, IsColumnGroup, IsCount, IsResult, opens_cursor}

-- A front of some results: none of them; or the first one whole, and a front of the others; or,
-- where the first one is rows, some of them from the first row on, without their end.
pub data IsFrontOf : List Outcome → List Outcome → Type 0 where
  none : {results : List Outcome} → IsFrontOf [] results
  first : {result : Outcome} {front others : List Outcome} → IsFrontOf front others →
      IsFrontOf (result ∷ front) (result ∷ others)
  open_rows : {columns : List ColumnDefinition} (rows more : List Row) {end : Option OkPacket} {others : List Outcome} →
      IsFrontOf (RowsResult columns rows None ∷ []) (RowsResult columns (rows ++ more) end ∷ others)

-- Payloads, and those of them that aren't in a report's form. Each that is can be read as one.
pub data PassesReports (c : Context) : List Payload → List Payload → Type 0 where
  nothing : PassesReports c [] []
  other : {payload : Payload} {payloads others : List Payload} →
      has_report_form c payload ≡ false → PassesReports c payloads others →
      PassesReports c (payload ∷ payloads) (payload ∷ others)
  report : {payload : Payload} {payloads others : List Payload} {report : ProgressReport} →
      has_report_form c payload ≡ true → Reads (progress_report_at payload) report →
      PassesReports c payloads others → PassesReports c (payload ∷ payloads) others

-- Payloads that begin a reply, and what stands in them: results, each of which says that another
-- follows; then rows so far, where their count and their columns stand; or any payloads, of which
-- nothing is said.
pub data BeginsReply (c : Context) : List Payload → List Outcome → Type 0 where
  unsaid : (payloads : List Payload) → BeginsReply c payloads []
  rows_so_far : {count : Payload} {n : ℕ} (group rows : List Payload)
      {columns : List ColumnDefinition} {says : Option OkPacket} {found : List Row} →
      has_results c.kind ≡ true → IsCount c count n → IsColumnGroup c n group columns says →
      opens_cursor c says ≡ false → AreRows c columns rows found →
      BeginsReply c (count ∷ group ++ rows) (RowsResult columns found None ∷ [])
  followed : (payloads others : List Payload) (listed rest : List Outcome) →
      IsResult c payloads listed true → BeginsReply c others rest → BeginsReply c (payloads ++ others) (listed ++ rest)

-- What stands in these payloads, progress reports among them, is there.
abbrev pub HasWhatStands : Context → List Payload → List Outcome → Type 0
HasWhatStands c payloads results =
    (others : List Payload) (found : List Outcome) → PassesReports c payloads others →
    BeginsReply c others found → IsFrontOf found results

-- The answer to any payloads has what stands in them.
abbrev pub EachAnswerHasWhatStands : Type 0
EachAnswerHasWhatStands = (c : Context) (payloads : List Payload) (rest : Rest) (answer : Answer) →
    IsReply c payloads rest answer → HasWhatStands c payloads answer.results
