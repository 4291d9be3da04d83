-- Words of the reader's own body, which no public call's clause has: what one more payload leads to
-- where rows are borrowed. MySQL: Client/Server Protocol, "COM_QUERY Response" and "Text Resultset".
use Rattle.std.specs.Prelude.{◌≡◌, Bool, true, List, [], ◌∷◌, ◌++◌, ℕ, Option, Some, None, Result, Ok, Err}
use Rattle.mysql_rows.specs.Rows.{Row}
use Rattle.mysql_reply_events.specs.Standing.{RowAt}
use Rattle.mysql_wire.specs.Incoming.{Incoming}
use Rattle.mysql_replies.specs.declared.part.Part.{Part}
use Rattle.mysql_replies.specs.declared.part.Part.TheVariants as parts
use Rattle.mysql_replies.specs.declared.fault.ReplyFault.{ReplyFault}
use Rattle.mysql_replies.specs.declared.fault.ReplyFault.TheVariants.{Memory}
use Rattle.mysql_replies.specs.declared.borrowing.Place.{Place}
use Rattle.mysql_replies.specs.declared.borrowing.Place.TheVariants as places
use Rattle.mysql_replies.specs.declared.state.ReplyState.{ReplyState}
use Rattle.mysql_columns.specs.Columns.{ColumnDefinition}
use Rattle.mysql_replies.specs.Together.{RowsPart}
use Rattle.mysql_replies.specs.Views.{part_view}
use Rattle.mysql_replies.specs.Reply.{Payload}
use Rattle.mysql_replies.specs.Holding.{ReaderState, ReaderGoesOn, TakesAll}
use Rattle.mysql_replies.specs.States.{IsShortOf, NumberedStateGoesOn, reader_state}

-- What there is of a result set, and this row behind its rows.
abbrev pub with_row : Part → Row → Part
with_row (parts.Rows open_rows) row = parts.Rows (record open_rows { rows = open_rows.rows ++ row ∷ [] })
with_row part row = part

-- The state in which this row was kept.
abbrev pub keeping : ReplyState → Row → ReplyState
keeping s row = record s { part = with_row s.part row }

-- The payload is a row that isn't kept, of rows that are due: the state in which it was kept goes on behind it.
pub record StateBorrows (old : ReplyState) (payload : Payload) (new : ReplyState) : Type 0 where
  pub row : Row
  pub lies : RowAt new.events.rows payload row
  pub columns : List ColumnDefinition
  pub rows : List Row
  pub part : part_view new.part ≡ RowsPart columns rows
  pub goes_on : NumberedStateGoesOn old payload (keeping new row)

-- What a payload leads to: a row can be borrowed, the state goes on, or memory ran out.
abbrev pub StateBorrowsNext : ReplyState → Payload → Result Bool ReplyFault → ReplyState → Type 0
StateBorrowsNext old payload (Ok true) new = StateBorrows old payload new
StateBorrowsNext old payload (Err Memory) new = IsShortOf old new
StateBorrowsNext old payload r new = NumberedStateGoesOn old payload new

-- The payload at a place.
abbrev pub payload_at : Place → Incoming → Payload
payload_at (places.InPiece payload) packets = payload.now
payload_at places.InBuffer packets = packets.payload

-- The row of the payload there can be borrowed, behind the bytes that were used of the piece.
pub record ReaderBorrows (old : ReaderState) (piece : List ℕ) (place : Place) (state : ReplyState)
    (packets : Incoming) (rest : List ℕ) : Type 0 where
  pub row : Row
  pub lies : RowAt state.events.rows (payload_at place packets) row
  pub columns : List ColumnDefinition
  pub rows : List Row
  pub part : part_view state.part ≡ RowsPart columns rows
  pub used : List ℕ
  pub cut : piece ≡ used ++ rest
  pub takes : TakesAll old (old.bytes ++ used) (reader_state (keeping state row) packets)
  pub goes_on : ReaderGoesOn old used (reader_state (keeping state row) packets)
  pub whole : (reader_state state packets).bytes ≡ []

-- Where bytes lead to: to the row of the payload at a place; or all of them were used, and what is
-- held goes on behind them.
abbrev pub ReadsToRow : ReaderState → List ℕ → Option Place → ReplyState → Incoming → List ℕ → Type 0
ReadsToRow old piece None state packets rest = (rest ≡ []) ×
    TakesAll old (old.bytes ++ piece) (reader_state state packets) ×
    ReaderGoesOn old piece (reader_state state packets)
ReadsToRow old piece (Some place) state packets rest = ReaderBorrows old piece place state packets rest
