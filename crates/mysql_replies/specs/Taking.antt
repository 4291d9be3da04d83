-- What a reader hands out of a reply before its end, and how that and what comes later are the reply.
-- MySQL: Client/Server Protocol, "COM_QUERY Response" and "Text Resultset"; MariaDB: 'Progress report' of "ERR_Packet".
use Rattle.std.specs.Prelude.{◌≡◌, ◌⊎◌, ℕ, List, [], ◌∷◌, ◌++◌, Some, None, Result, Err, OnOk, IfErr, IfSome}
use Rattle.std.specs.List.{flat_map}
use Rattle.mysql_columns.specs.Columns.{ColumnDefinition}
use Rattle.mysql_server_packets.specs.Packets.{ProgressReport}
use Rattle.mysql_rows.specs.Rows.{Row}
use Rattle.mysql_wire.specs.Bytes.{AreBytes}
use Rattle.mysql_reply_events.specs.declared.context.Context.{Context}
use Rattle.mysql_replies.specs.declared.fault.ReplyFault.{ReplyFault}
use Rattle.mysql_replies.specs.declared.fault.ReplyFault.TheVariants.{Memory}
use Rattle.mysql_replies.specs.Together.{Outcome, Part, RowsPart, RowsResult, listed}
use Rattle.mysql_replies.specs.Reply.{Answer, ReplySoFar, GoingOn, Answered}
use Rattle.mysql_replies.specs.Bytes.{IsReplyOf, IsShortReplyOf}
use Rattle.mysql_replies.specs.Holding.{ReaderState, fresh_reader, ReaderDecides, ReaderGoesOn, TakesAll, StandsShort}
use Rattle.mysql_replies.specs.Holding.{fault_of}

-- Rows before what was listed later: they begin its first result, where that is rows.
abbrev pub rows_before : List ColumnDefinition → List Row → List Outcome → List Outcome
rows_before columns rows (RowsResult _ others terminator ∷ later) =
    RowsResult columns (rows ++ others) terminator ∷ later
rows_before columns rows later = RowsResult columns rows None ∷ later

-- The parts of each result set as one: rows without a terminator go on in rows right behind them.
abbrev pub joined : List Outcome → List Outcome
joined [] = []
joined (RowsResult columns rows None ∷ later) = rows_before columns rows (joined later)
joined (outcome ∷ later) = outcome ∷ joined later

-- The rows so far of a result set that goes on.
abbrev pub rows_awaited : Part → List Row
rows_awaited (RowsPart columns rows) = rows
rows_awaited part = []

-- The part of a result set that is handed out: its rows so far, if there are any.
abbrev pub part_of : Part → List Outcome
part_of (RowsPart columns (row ∷ rows)) = RowsResult columns (row ∷ rows) None ∷ []
part_of part = []

-- What there is of the result set behind it: no row under the same columns.
abbrev pub behind_part : Part → Part
behind_part (RowsPart columns rows) = RowsPart columns []
behind_part part = part

-- The results that are handed out: the whole ones and that part; where a fault was met, all that are listed.
abbrev pub results_in : ReplySoFar → List Outcome
results_in (GoingOn s) = s.results ++ part_of s.part
results_in (Answered answer) = answer.results

-- The reply so far without them.
abbrev pub without_results : ReplySoFar → ReplySoFar
without_results (GoingOn s) = GoingOn (record s { results = []; part = behind_part s.part })
without_results (Answered answer) = Answered (record answer { results = [] })

-- The progress reports that are handed out: all.
abbrev pub reports_in : ReplySoFar → List ProgressReport
reports_in (GoingOn s) = s.progress
reports_in (Answered answer) = answer.progress

abbrev pub without_reports : ReplySoFar → ReplySoFar
without_reports (GoingOn s) = GoingOn (record s { progress = [] })
without_reports (Answered answer) = Answered (record answer { progress = [] })

-- What is listed of a reply so far: these whole results, and these rows of a result set that goes on. Behind a fault
-- what there is of one more result stands with the results.
abbrev pub Lists : ReplySoFar → List Outcome → List Row → Type 0
Lists (GoingOn s) results rows = (s.results ≡ results) × (rows_awaited s.part ≡ rows)
Lists (Answered answer) results rows =
    (part : Part) × (answer.results ≡ results ++ listed part) × (rows_awaited part ≡ rows)

abbrev pub ListsResults : ReplySoFar → List Outcome → Type 0
ListsResults so_far results = (rows : List Row) × Lists so_far results rows

abbrev pub ListsRows : ReplySoFar → List Row → Type 0
ListsRows so_far rows = (results : List Outcome) × Lists so_far results rows

-- What was handed out and the answer that came later, as one.
abbrev pub joined_answer : List Outcome → List ProgressReport → Answer → Answer
joined_answer taken reports later =
    record {
      results = joined (taken ++ later.results);
      progress = reports ++ later.progress;
      end =
          later.end;
    }

-- What a reader's feed does, by its clauses.
pub record Feeds (old new : ReaderState) (piece : List ℕ) (r : Result (Unit {0}) ReplyFault) : Type 0 where
  pub stays : IfSome (fault_of old.so_far) (λ fault. (r ≡ Err fault) × (new ≡ old))
  pub going : OnOk r (fault_of new.so_far ≡ None)
  pub fault : IfErr r (λ fault. fault_of new.so_far ≡ Some fault)
  pub takes : OnOk r (TakesAll old (old.bytes ++ piece) new)
  pub goes_on : (r ≡ Err Memory → ⊥) → ReaderGoesOn old piece new
  pub short : fault_of old.so_far ≡ None → r ≡ Err Memory → StandsShort old (old.bytes ++ piece) new

-- A fresh reader was fed these pieces, with takes before, between and after them: these results and
-- reports were handed out, and that is held.
pub data Runs (c : Context) (first_id limit : ℕ) : List (List ℕ) → List Outcome →
    List ProgressReport → ReaderState → Type 0 where
  begins : Runs c first_id limit [] [] [] (fresh_reader c first_id limit)
  feeds : {pieces : List (List ℕ)} {taken : List Outcome} {reports : List ProgressReport}
      {old : ReaderState} (piece : List ℕ) (r : Result (Unit {0}) ReplyFault) (new : ReaderState) →
      Runs c first_id limit pieces taken reports old → AreBytes piece → Feeds old new piece r →
      Runs c first_id limit (pieces ++ piece ∷ []) taken reports new
  takes_results : {pieces : List (List ℕ)} {taken : List Outcome} {reports : List ProgressReport}
      {old : ReaderState} → Runs c first_id limit pieces taken reports old →
      Runs c first_id limit pieces (taken ++ results_in old.so_far) reports
      (record old { so_far = without_results old.so_far })
  takes_reports : {pieces : List (List ℕ)} {taken : List Outcome} {reports : List ProgressReport}
      {old : ReaderState} → Runs c first_id limit pieces taken reports old →
      Runs c first_id limit pieces taken (reports ++ reports_in old.so_far)
      (record old { so_far = without_reports old.so_far })

-- All that was handed out and the answer at the end are, joined, the reply of all the bytes, or
-- where memory ran out that of their first payloads.
abbrev pub TakenResultsAreTheReply : Type 0
TakenResultsAreTheReply =
    (c : Context) (first_id limit : ℕ) (pieces : List (List ℕ)) (taken : List Outcome)
    (reports : List ProgressReport) (held : ReaderState) (answer : Answer) →
    Runs c first_id limit pieces taken reports held → ReaderDecides held [] answer →
    IsReplyOf c first_id limit (flat_map (λ piece. piece) pieces)
    (joined_answer taken reports answer) ⊎
    IsShortReplyOf c first_id limit pieces (joined_answer taken reports answer)
