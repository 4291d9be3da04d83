-- What a writer does.
-- MySQL: Client/Server Protocol, "COM_QUERY Response" and "COM_STMT_PREPARE Response".
use Rattle.std.specs.Prelude.{◌≡◌, ℕ, List, [], ◌++◌, Option, Some, None}
use Rattle.mysql_columns.specs.Columns.{ColumnDefinition}
use Rattle.mysql_wire.specs.Stream.{framings}
use Rattle.mysql_wire.specs.Stream.Numbering.{OnFrom}
use Rattle.mysql_server_packets.specs.Packets.{ProgressReport}
use Rattle.mysql_reply_events.specs.declared.context.Context.{Context}
use Rattle.mysql_replies.specs.Together.{Outcome}
use Rattle.mysql_replies.specs.Manual.{IsFramedReply}
use Rattle.mysql_reply_writer.specs.declared.refusal.ReplyRefusal.{ReplyRefusal}
use Rattle.mysql_reply_writer.specs.Fits.{StepsFit}
use Rattle.mysql_reply_writer.specs.Refusals.{OpenRows, Writing, after_steps, nothing_written, steps_cause}
use Rattle.mysql_reply_writer.specs.Written.{Step, steps_payloads}
use Rattle.mysql_reply_writer.specs.Puts.{IsCause, number_behind}

-- A writer: how far its reply is written, and the number of the next chunk.
pub record Writer : Type 0 where
  pub so_far : Writing
  pub number : ℕ

-- A writer that has written nothing.
abbrev pub fresh_writer : Context → ℕ → ℕ → Writer
fresh_writer c first_id limit = record { so_far = nothing_written c limit; number = first_id }

-- The columns of the rows that go on.
abbrev pub columns_of : Option OpenRows → List ColumnDefinition
columns_of None = []
columns_of (Some rows) = rows.columns

-- The payloads of steps, for the client of this writer.
abbrev pub payloads_of : Writer → List Step → List (List ℕ)
payloads_of writer steps = steps_payloads writer.so_far.context steps

-- Steps against which nothing speaks were written: the framings of their payloads are appended,
-- numbered on, and the writer goes on behind them.
pub record Wrote (old : Writer) (steps : List Step) (new : Writer) (before after : List ℕ) : Type 0 where
  pub allowed : steps_cause old.so_far steps ≡ None
  pub so_far : new.so_far ≡ after_steps old.so_far steps
  pub number : new.number ≡ number_behind (payloads_of old steps) old.number
  pub appended : after ≡ before ++ framings (payloads_of old steps) (OnFrom old.number)
  pub fit : StepsFit steps

-- Steps are refused by what speaks against the first that isn't written, or for want of memory.
abbrev pub Refuses : Writer → List Step → ReplyRefusal → Type 0
Refuses writer steps refusal = IsCause (steps_cause writer.so_far steps) refusal

-- The framings of a whole reply were appended, with these results and these progress reports: bytes
-- that reading answers so, and Whole.
abbrev pub AppendsReply : Context → ℕ → ℕ → List Outcome → List ProgressReport → List ℕ → List ℕ → Type 0
AppendsReply c first_id limit listed reports before after =
    (appended : List ℕ) × (after ≡ before ++ appended) × IsFramedReply c first_id limit appended listed reports
