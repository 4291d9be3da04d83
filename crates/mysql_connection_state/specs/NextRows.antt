-- A row that is read where it lies, behind another one or not.
-- MySQL: Client/Server Protocol, "Text Resultset Row" and "Binary Protocol Resultset Row".
use Rattle.std.specs.Prelude.{◌≡◌, ◌≤◌, ◌⊎◌, List, ℕ, Bool, true, false, None, Some, Ok, Err}
use Rattle.mysql_connection_statements.specs.Statements.{Statements}
use Rattle.mysql_reply_events.specs.Events.Awaited.{Rows}
use Rattle.mysql_reply_events.specs.Events.Event.{RowEvent}
use Rattle.mysql_reply_events.specs.NextRows.{TakesNoRow, is_next_row}
use Rattle.mysql_reply_events.specs.Reader.{is_row_due}
use Rattle.mysql_reply_events.specs.Standing.{RowAt}
use Rattle.mysql_reply_events.specs.declared.fault.ReplyFault.TheVariants.{BadRow}
use Rattle.mysql_rows.specs.Rows.{Row}
use Rattle.mysql_connection_rules.specs.Events.Event.{Replied}
use Rattle.mysql_connection_rules.specs.Standing.{Phase, kept}
use Rattle.mysql_connection_rules.specs.Standing as phases
use Rattle.mysql_connection_rules.specs.Steps.{step, turn}
use Rattle.mysql_connection_rules.specs.declared.fault.Fault.TheVariants.{BadReply}
use Rattle.mysql_connection_rules.specs.declared.side.Side.TheVariants.{Server}
use Rattle.mysql_connection_state.specs.Reads.{SaysRow}
use Rattle.mysql_connection_state.specs.Views.{ConnectionState}
use Rattle.mysql_connection_state.specs.declared.due.InReply.{InReply as HeldReply}

-- The reply's payload is a row, whatever statements stand; or nothing has changed but what reads rows.
abbrev pub TakesRowOfReply : HeldReply → List ℕ → Bool → HeldReply → Type 0
TakesRowOfReply old payload true new =
    (old.reader.so_far.awaited ≡ Rows true) × ((these : Statements) → SaysRow old these payload new these)
TakesRowOfReply old payload false new =
    (new ≡ record old { reader = record old.reader { rows = new.reader.rows } }) ×
    TakesNoRow old.reader payload

-- The payload is the server's row that is due. It lies there, and no more is kept behind it.
pub record ReadsNextRow (old : ConnectionState) (payload : List ℕ) (new : ConnectionState) : Type 0 where
  pub turn : turn old.standing.phase ≡ Some Server
  pub row : Row
  pub lies : RowAt new.rows payload row
  pub step : step old.standing payload ≡ Ok (Replied (RowEvent row), new.standing)
  pub kept : kept new.standing ≤ kept old.standing

-- Rows of a reply are due behind others, and the payload begins as one.
abbrev pub awaits_next_row : Phase → List ℕ → Bool
awaits_next_row (phases.Reply r) payload = is_next_row r.so_far.awaited payload
awaits_next_row phase payload = false

-- No row is read so: none was lent yet, none is due behind another or the payload doesn't begin as one, or it is none.
abbrev pub ReadsNoNextRow : ConnectionState → List ℕ → Type 0
ReadsNoNextRow old payload = (old.rows ≡ None) ⊎
    ((awaits_next_row old.standing.phase payload ≡ false) ⊎
    (step old.standing payload ≡ Err (BadReply BadRow)))

-- A row was read; or nothing has changed but what reads rows.
abbrev pub TakesRow : ConnectionState → List ℕ → Bool → ConnectionState → Type 0
TakesRow old payload true new = ReadsNextRow old payload new
TakesRow old payload false new = (new.standing ≡ old.standing) × ReadsNoNextRow old payload

-- The same of a row that was due, a first one too.
abbrev pub LendsRowOfReply : HeldReply → List ℕ → Bool → HeldReply → Type 0
LendsRowOfReply old payload true new =
    (is_row_due old.reader.context old.reader.so_far payload ≡ true) ×
    ((these : Statements) → SaysRow old these payload new these)
LendsRowOfReply old payload false new =
    new ≡ record old { reader = record old.reader { rows = new.reader.rows } }

-- A row that was due was read; or nothing has changed but what reads rows.
abbrev pub LendsRow : ConnectionState → List ℕ → Bool → ConnectionState → Type 0
LendsRow old payload true new = ReadsNextRow old payload new
LendsRow old payload false new = new.standing ≡ old.standing
