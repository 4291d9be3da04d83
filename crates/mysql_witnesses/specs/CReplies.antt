-- What the calls for C about replies exclude. bindings/c/mysql_session.h has their numbers.
-- MySQL: Client/Server Protocol, "COM_QUERY Response", "OK_Packet" (session state).
use Rattle.std.specs.Prelude.{◌≡◌, ℕ, false, List, [], ◌∷◌, None}
use Rattle.mysql_c_handles.specs.declared.object.Object.TheVariants as object
use Rattle.mysql_c_handles.specs.declared.object.ReplyInParts.{ReplyInParts}
use Rattle.mysql_c_replies.specs.Replies.{IsNewReply, OutcomesAreTaken}
use Rattle.mysql_c_replies.specs.Shown.{outcome_shown}
use Rattle.mysql_c_replies.specs.Spots.{spot_of}
use Rattle.mysql_c_replies.specs.States.{ReadsAt}
use Rattle.mysql_c_replies.specs.declared.shown.ShownResult.{ShownResult}
use Rattle.mysql_columns.specs.Columns.{ColumnDefinition}
use Rattle.mysql_replies.specs.Together.{RowsResult}
use Rattle.mysql_replies.specs.Taking.{reports_in}
use Rattle.mysql_reply_writer.specs.declared.refusal.ReplyRefusal.TheVariants.{CellCount}
use Rattle.mysql_rows.specs.Rows.{Row}

-- Of rows that haven't ended no length of an earlier result stays. Excluded: the old one.
abbrev pub NoOldLengthStays : Type 0
NoOldLengthStays = (columns : List ColumnDefinition) (rows : List Row) (shown : ShownResult) →
    (outcome_shown (RowsResult columns rows None) shown).len ≡ 0

-- And they are shown as not ended. Excluded: rows that ended. MySQL: Client/Server Protocol, "Text Resultset".
abbrev pub OpenRowsHaveNoEnd : Type 0
OpenRowsHaveNoEnd = (columns : List ColumnDefinition) (rows : List Row) (shown : ShownResult) →
    (outcome_shown (RowsResult columns rows None) shown).ended ≡ false

-- A change of the schema to `a` takes four bytes, behind which the next one stands. Excluded: a
-- position by the length of its data. MySQL: Client/Server Protocol, "OK_Packet", 'Session State Information'.
abbrev pub ChangesEndBehindTheirData : Type 0
ChangesEndBehindTheirData = (next type len : ℕ) →
    ReadsAt (1 ∷ 2 ∷ 1 ∷ 0x61 ∷ 1 ∷ 1 ∷ 0 ∷ []) 0 0 next type len → next ≡ 4

-- Once results are taken no progress report is held. Excluded: reports that pile up over a long reply.
-- MariaDB: Client/Server Protocol, "ERR_Packet" ('Progress report').
abbrev pub TakenResultsTakeTheReports : Type 0
TakenResultsTakeTheReports = (number : ℕ) (old new : ReplyInParts) →
    OutcomesAreTaken number (object.Reply new) old → reports_in new.reader.so_far ≡ []

-- Of a number that names no kind no reader is made. Excluded: one of a query's reply.
abbrev pub NoKindIsNoReader : Type 0
NoKindIsNoReader = (capabilities first limit : ℕ) (made : ReplyInParts) → IsNewReply 3 capabilities first limit made → ⊥

-- A row of the wrong width is shown by its result, 1, and its row, 2. Excluded: the two exchanged.
abbrev pub ResultsStandBeforeRows : Type 0
ResultsStandBeforeRows = spot_of (CellCount 1 2) ≡ record { result = 1; row = 2; place = 0; payload = 0 }
