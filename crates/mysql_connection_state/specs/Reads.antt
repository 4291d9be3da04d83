-- What the crate's calls answer, by the table of steps.
-- MySQL: Client/Server Protocol, "Connection Lifecycle".
use Rattle.std.specs.Prelude.{◌≡◌, ◌≤◌, ◌^◌, ℕ, List, Option, Some, None}
use Rattle.std.specs.Prelude.{if◌then◌else◌, Result, Ok, Err}
use Rattle.mysql_commands.specs.Commands.{Command}
use Rattle.mysql_connection_statements.specs.Statements.{Statements, counted}
use Rattle.mysql_reply_events.specs.Events.{Event as ReplySaid}
use Rattle.mysql_reply_events.specs.Events.Event.{RowEvent}
use Rattle.mysql_reply_events.specs.Reader.{ReadsRow}
use Rattle.mysql_connection_rules.specs.Events as events
use Rattle.mysql_connection_rules.specs.Standing.{About, InReply, Phase, Standing}
use Rattle.mysql_connection_rules.specs.Standing as phases
use Rattle.mysql_connection_rules.specs.Steps.{in_phase, is_whole}
use Rattle.mysql_connection_rules.specs.Steps.{phase_behind, reply_after, with_columns}
use Rattle.mysql_connection_rules.specs.declared.fault.Fault.{Fault}
use Rattle.mysql_connection_rules.specs.declared.fault.Fault.TheVariants.{Memory}
use Rattle.mysql_connection_state.specs.Views.{in_reply_view}
use Rattle.mysql_connection_state.specs.declared.due.InReply.{InReply as HeldReply}
use Rattle.mysql_connection_state.specs.declared.event.Event.{Event}

-- What an event is of.
abbrev pub replied : events.Event → Option ReplySaid
replied (events.Replied said) = Some said
replied event = None

abbrev pub asked : events.Event → Option Command
asked (events.Asked command) = Some command
asked event = None

-- What a function answered, seen by view, is what reading gives, unless memory ran out.
abbrev pub Gives : {X Y : Type 0} → (X → Y) → Result X Fault → Result Y Fault → Type 0
Gives view (Ok x) read = read ≡ Ok (view x)
Gives view (Err Memory) read = Unit {0}
Gives view (Err fault) read = read ≡ Err fault

-- Once a reply is whole, the columns that stand are those that its statement has.
abbrev pub kept_columns : InReply → Statements → Statements
kept_columns r s = if is_whole r.so_far.awaited then with_columns r r.about s else s

-- A row was read where it lies, and changes nothing of the statements.
pub record SaysRow (old : HeldReply) (before : Statements) (payload : List ℕ) (new : HeldReply)
    (after : Statements) : Type 0 where
  pub read : ReadsRow old.reader payload new.reader
  pub reply : in_reply_view new ≡
      reply_after (in_reply_view old) (counted payload) (RowEvent read.row) new.reader.so_far
  pub statements : after ≡ before

-- What is due behind an event of a reply, which stands so behind it.
abbrev pub told : InReply → ReplySaid → Standing → Standing
told r event s =
    in_phase (if is_whole r.so_far.awaited then phase_behind r.about event else phases.Reply r) s

-- An execution isn't answered yet.
abbrev pub IsExecuting : About → Type 0
IsExecuting (phases.Executing pending) = Unit {0}
IsExecuting about = ⊥

-- A reply is due, or a file that it asks for.
abbrev pub IsInReply : Phase → Type 0
IsInReply (phases.Reply r) = Unit {0}
IsInReply phase = ⊥

-- A count, where it fits a usize.
abbrev pub IsCount : ℕ → Option ℕ → Type 0
IsCount count (Some n) = n ≡ count
IsCount count None = 2 ^ 64 ≤ count
