-- What a reader does whose rows are borrowed in place of kept.
-- MySQL: Client/Server Protocol, "COM_QUERY Response", "Text Resultset Row" and "Binary Protocol Resultset Row"; C API,
-- "mysql_use_result()".
use Rattle.std.specs.Prelude.{◌≡◌, ℕ, List, [], ◌∷◌, ◌++◌, Option, Some, None, Result, Ok, Err}
use Rattle.std.specs.List.{flat_map}
use Rattle.mysql_columns.specs.Columns.{ColumnDefinition}
use Rattle.mysql_server_packets.specs.Packets.{ProgressReport}
use Rattle.mysql_rows.specs.Rows.{Row}
use Rattle.mysql_row_refs.specs.RowRefs.{row_ref_view}
use Rattle.mysql_row_refs.specs.declared.row_ref.RowRef.{RowRef}
use Rattle.mysql_wire.specs.Bytes.{AreBytes}
use Rattle.mysql_reply_events.specs.declared.context.Context.{Context}
use Rattle.mysql_replies.specs.declared.fault.ReplyFault.{ReplyFault}
use Rattle.mysql_replies.specs.Together.{Outcome, RowsPart, RowsResult}
use Rattle.mysql_replies.specs.Reply.{OpenReply, ReplySoFar, GoingOn, Answered}
use Rattle.mysql_replies.specs.Holding.{HasFoundNoFault, ReaderState}
use Rattle.mysql_replies.specs.Taking.{Feeds, Runs, results_in, rows_awaited}

-- The rows of a result.
abbrev pub rows_in : Outcome → List Row
rows_in (RowsResult columns rows terminator) = rows
rows_in outcome = []

-- All rows that are listed of a reply so far, one after another.
abbrev pub rows_listed : ReplySoFar → List Row
rows_listed (GoingOn s) = flat_map rows_in s.results ++ rows_awaited s.part
rows_listed (Answered answer) = flat_map rows_in answer.results

-- A row was read behind the bytes that were used, and isn't kept: fed these bytes, the reader would
-- hold what it holds now, and this row as the last one of those so far.
pub record BorrowsRow (old : ReaderState) (piece : List ℕ) (row : Row) (new : ReaderState)
    (rest : List ℕ) : Type 0 where
  pub used : List ℕ
  pub cut : piece ≡ used ++ rest
  pub s : OpenReply
  pub going : new.so_far ≡ GoingOn s
  pub columns : List ColumnDefinition
  pub rows : List Row
  pub part : s.part ≡ RowsPart columns rows
  pub feeds : Feeds old (record new {
    so_far = GoingOn (record s { part = RowsPart columns (rows ++ row ∷ []) });
  }) used (Ok tt)
  pub whole : new.bytes ≡ []

-- What follows of a piece: its next row is borrowed; or it has no further row, and the reader was
-- fed it and has found no fault, or met one.
abbrev pub Advances : ReaderState → List ℕ → Result (Option RowRef) ReplyFault → ReaderState → List ℕ → Type 0
Advances old piece (Ok (Some row)) new rest = BorrowsRow old piece (row_ref_view row) new rest
Advances old piece (Ok None) new rest = Feeds old new piece (Ok tt) × HasFoundNoFault new × (rest ≡ [])
Advances old piece (Err fault) new rest = Feeds old new piece (Err fault) × (rest ≡ piece)

-- The next row is borrowed, and no row is kept.
pub record BorrowsNext (old : ReaderState) (piece : List ℕ) (r : Result (Option RowRef) ReplyFault)
    (new : ReaderState) (rest : List ℕ) : Type 0 where
  pub advances : Advances old piece r new rest
  pub keeps_none : rows_listed new.so_far ≡ rows_listed old.so_far

-- Where nothing else is listed, a row that was borrowed is as one that was kept and handed out at
-- once, as a part of its result set. So all that holds of results that were handed out holds of rows
-- that were borrowed.
abbrev pub BorrowedRowsAreHandedOut : Type 0
BorrowedRowsAreHandedOut = (c : Context) (first_id limit : ℕ) (pieces : List (List ℕ))
    (taken : List Outcome) (reports : List ProgressReport) (old new : ReaderState)
    (piece rest : List ℕ) (row : Row) →
    Runs c first_id limit pieces taken reports old → AreBytes piece →
    (borrowed : BorrowsRow old piece row new rest) → results_in new.so_far ≡ [] →
    Runs c first_id limit (pieces ++ borrowed.used ∷ []) (taken ++
    RowsResult borrowed.columns (row ∷ []) None ∷ []) reports new
