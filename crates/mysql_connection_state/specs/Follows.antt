-- What a state does behind an event that a payload says: it goes on, or nothing changes.
-- MySQL: Client/Server Protocol, "Connection Lifecycle".
use Rattle.std.specs.Prelude.{◌≡◌, ◌+◌, ◌<◌, ◌≤◌, ℕ, List, Option, Some, None, Result, Ok, Err}
use Rattle.std.specs.Prelude.{if◌then◌else◌}
use Rattle.mysql_columns.specs.Columns.{ColumnDefinition}
use Rattle.mysql_commands.specs.Commands.{Command, command_at}
use Rattle.mysql_reply_events.specs.Behind.{behind}
use Rattle.mysql_reply_events.specs.Events.{Event as ReplySaid, ReplySoFar}
use Rattle.mysql_reply_events.specs.Reader.{GoesOn, ReaderState}
use Rattle.mysql_connection_rules.specs.Puts.{step_for}
use Rattle.mysql_connection_rules.specs.Events.{Event}
use Rattle.mysql_connection_rules.specs.Standing.{About, InReply, Phase, Standing, about_size, kept}
use Rattle.mysql_connection_rules.specs.Standing.{phase_size}
use Rattle.mysql_connection_rules.specs.Standing.About.{OfStatement}
use Rattle.mysql_connection_rules.specs.Standing as phases
use Rattle.mysql_connection_rules.specs.Steps.{about_after, after_command, changed_by, context_of}
use Rattle.mysql_connection_rules.specs.Steps.{is_whole, parameters_in_question, reply_due}
use Rattle.mysql_connection_rules.specs.Steps.{reply_after, with_columns}
use Rattle.mysql_connection_rules.specs.declared.exchange.Exchange.{Exchange}
use Rattle.mysql_connection_statements.specs.Statements.{Statements}
use Rattle.mysql_reply_events.specs.declared.context.ReplyKind.TheVariants as kinds
use Rattle.mysql_connection_state.specs.Reads.{IsInReply, kept_columns}
use Rattle.mysql_connection_state.specs.Views.{ConnectionState, about_view, in_reply_view}
use Rattle.mysql_connection_state.specs.declared.due.InReply.{InReply as HeldReply}
use Rattle.mysql_connection_state.specs.declared.following_replies.ColumnSizes.{ColumnSizes}
use Rattle.mysql_connection_state.specs.declared.following.FollowRefusal.{FollowRefusal}
use Rattle.mysql_connection_state.specs.declared.following.FollowRefusal.TheVariants.{Held, Memory}

-- The payload says the event, and leads there.
abbrev pub LeadsTo : Standing → Event → List ℕ → Standing → Type 0
LeadsTo s event payload after = step_for event s payload ≡ Ok (event, after)

-- This payload says the event: the state is behind it, within the room for what is kept; or it is as it
-- was, where that would be more, or memory ran out.
abbrev pub FollowsEvent : ConnectionState → Event → List ℕ → (room : ℕ) → Result (Unit {0}) FollowRefusal →
    ConnectionState → Type 0
FollowsEvent old event payload room (Ok done) new =
    (after : Standing) → LeadsTo old.standing event payload after →
    (new.standing ≡ after) × (kept after ≤ room)
FollowsEvent old event payload room (Err Held) new =
    (new ≡ old) ×
    ((after : Standing) → LeadsTo old.standing event payload after → room < kept after)
FollowsEvent old event payload room (Err Memory) new = new ≡ old

-- The same, where what stands behind the event is known.
abbrev pub Goes : ConnectionState → (after : Standing) → (room : ℕ) → Result (Unit {0}) FollowRefusal →
    ConnectionState → Type 0
Goes old after room (Ok done) new = (new.standing ≡ after) × (kept after ≤ room)
Goes old after room (Err Held) new = (new ≡ old) × (room < kept after)
Goes old after room (Err Memory) new = new ≡ old

-- What a command's payload says, by what stands; and what stands behind it, whatever that is.
abbrev pub command_said : Standing → List ℕ → Command
command_said s payload =
    command_at s.capabilities (parameters_in_question s.statements payload) payload

abbrev pub after_said : Standing → List ℕ → Standing
after_said s payload = after_command s payload (command_said s payload)

-- Behind an execution of this statement that leaves all else as it is, its reply is due.
abbrev pub after_settled : (id : ℕ) → Option (List ColumnDefinition) → Standing → Standing
after_settled id columns s =
    reply_due kinds.Binary columns (OfStatement id) s

-- So much is within the room, or it is not.
abbrev pub HasRoom : (size room : ℕ) → Result (Unit {0}) FollowRefusal → Type 0
HasRoom size room (Ok done) = size ≤ room
HasRoom size room (Err refusal) = (refusal ≡ Held) × (room < size)

-- What an authentication that is due is for.
abbrev pub exchange_due : Phase → Option Exchange
exchange_due (phases.Authentication exchange) = Some exchange
exchange_due phase = None

-- A reader reads the reply that is due, by what stands.
pub record ReadsReply (s : Standing) (r : InReply) (reader : ReaderState) : Type 0 where
  pub phase : s.phase ≡ phases.Reply r
  pub context : reader.context ≡ context_of s r
  pub so_far : reader.so_far ≡ r.so_far
  pub fault : reader.fault ≡ None

-- The reader of the reply that is due, where one is.
abbrev pub IsReplyReader : Standing → Option ReaderState → Type 0
IsReplyReader s (Some reader) = (r : InReply) × ReadsReply s r reader
IsReplyReader s None = IsInReply s.phase → ⊥

-- REPLIES: words of the code's own, which no public call's clause has

-- What is kept behind an event of a reply, which stands so behind it with these statements.
abbrev pub reply_kept : InReply → Statements → ℕ
reply_kept r s =
    if is_whole r.so_far.awaited then (with_columns r r.about s).stored
    else s.stored + phase_size s (phases.Reply r)

-- What is kept for the statements and for what a reply is about, where the reply goes on behind an
-- event whose payload counts so much.
abbrev pub going_size : About → (more : ℕ) → ReplySaid → Statements → ℕ
going_size about more event s =
    (changed_by about more event s).stored +
    about_size (changed_by about more event s) (about_after about event)

-- What is kept for the statements, where the reply is whole behind it.
abbrev pub whole_size : InReply → About → (more : ℕ) → ReplySaid → Statements → ℕ
whole_size r about more event s =
    (with_columns r (about_after about event) (changed_by about more event s)).stored

-- A reply whose columns take so much.
abbrev pub with_sizes : ColumnSizes → InReply → InReply
with_sizes sizes r =
    record r { earlier = sizes.earlier; coming = sizes.coming; parameters = sizes.parameters }

-- What is known of a reply behind an event, whose columns take so much.
abbrev pub sized_reply : ColumnSizes → InReply → ReplySaid → ReplySoFar → InReply
sized_reply sizes r event next = record {
  kind = r.kind;
  so_far = next;
  about = about_after r.about event;
  earlier = sizes.earlier;
  coming = sizes.coming;
  parameters = sizes.parameters;
}

abbrev pub AreSizes : ColumnSizes → InReply → (size : ℕ) → ReplySaid → Type 0
AreSizes sizes r size event =
    (next : ReplySoFar) → reply_after r size event next ≡ sized_reply sizes r event next

-- What is known of a reply of which a statement was prepared, of this id, or none yet.
abbrev pub or_of_statement : About → Option ℕ → About
or_of_statement about None = about
or_of_statement about (Some id) = OfStatement id

-- The reply, the statements and what is kept behind an event whose payload counts so much.
abbrev pub next_of : HeldReply → ReplySaid → ReplySoFar
next_of r event = behind r.reader.context r.reader.so_far event

abbrev pub reply_behind : HeldReply → (size : ℕ) → ReplySaid → InReply
reply_behind r size event = reply_after (in_reply_view r) size event (next_of r event)

abbrev pub statements_behind : HeldReply → (size : ℕ) → ReplySaid → Statements → Statements
statements_behind r size event s = changed_by (about_view r.about) size event s

abbrev pub kept_behind : HeldReply → (size : ℕ) → ReplySaid → Statements → ℕ
kept_behind r size event s =
    reply_kept (reply_behind r size event) (statements_behind r size event s)

-- The reply and the statements are behind it.
pub record IsPassed (old : HeldReply) (before : Statements) (size : ℕ) (event : ReplySaid)
    (new : HeldReply) (after : Statements) : Type 0 where
  pub reply : in_reply_view new ≡ reply_behind old size event
  pub goes_on : GoesOn old.reader new.reader
  pub statements : after ≡
      kept_columns (reply_behind old size event) (statements_behind old size event before)

-- Neither changes.
pub record Stays (old : HeldReply) (before : Statements) (new : HeldReply) (after : Statements) : Type 0 where
  pub reply : new ≡ old
  pub statements : after ≡ before

abbrev pub Passes : HeldReply → Statements → (size : ℕ) → ReplySaid → (room : ℕ) →
    Result (Unit {0}) FollowRefusal → HeldReply → Statements → Type 0
Passes old before size event room (Ok done) new after =
    IsPassed old before size event new after × (kept_behind old size event before ≤ room)
Passes old before size event room (Err Held) new after =
    Stays old before new after × (room < kept_behind old size event before)
Passes old before size event room (Err Memory) new after = Stays old before new after
