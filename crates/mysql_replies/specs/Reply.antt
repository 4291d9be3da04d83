-- The answer of a reply: the events of its payloads, put together one after another, and how it ends.
-- MySQL: Client/Server Protocol, "COM_QUERY Response" and "COM_STMT_PREPARE Response"; MariaDB: 'Progress report' of
-- "ERR_Packet".
use Rattle.std.specs.Prelude.{◌≡◌, ℕ, ◌+◌, List, [], ◌∷◌, ◌++◌, Bool, true, false, Option, None, Ok, Err}
use Rattle.mysql_wire.specs.Stream.{Rest}
use Rattle.mysql_wire.specs.Stream.Rest.{Empty, TooLarge, OutOfSync}
use Rattle.mysql_const.specs.declared.capabilities.CapabilityFlags.{CapabilityFlags}
use Rattle.mysql_columns.specs.Columns.{ColumnDefinition}
use Rattle.mysql_server_packets.specs.Packets.{ProgressReport}
use Rattle.mysql_reply_events.specs.Events as events
use Rattle.mysql_reply_events.specs.Events.{Event}
pub use Rattle.mysql_reply_events.specs.Events.{Payload}
use Rattle.mysql_reply_events.specs.Table.{event_at}
use Rattle.mysql_reply_events.specs.Table as table
use Rattle.mysql_reply_events.specs.declared.context.Context.{Context}
use Rattle.mysql_reply_events.specs.declared.context.ReplyKind.{ReplyKind}
use Rattle.mysql_reply_events.specs.declared.fault.ReplyFault.{ReplyFault as EventFault}
use Rattle.mysql_reply_events.specs.declared.fault.ReplyFault.TheVariants as event_faults
use Rattle.mysql_replies.specs.declared.fault.ReplyFault.{ReplyFault}
use Rattle.mysql_replies.specs.declared.fault.ReplyFault.TheVariants.{AfterEnd}
use Rattle.mysql_replies.specs.declared.fault.ReplyFault.TheVariants as faults
use Rattle.mysql_replies.specs.Together.{Outcome, Part, first_part, listed, put, reported}

-- How a reply ends: whole, unfinished, or at the payload of this number.
pub data End : Type 0 where
  Whole : End
  Unfinished : End
  FaultAt : ℕ → ReplyFault → End

pub record Answer : Type 0 where
  pub results : List Outcome
  pub progress : List ProgressReport
  pub end : End

-- A fault by its name. A payload that isn't due comes after the end.
abbrev pub fault_of : EventFault → ReplyFault
fault_of event_faults.BadHeader = faults.BadHeader
fault_of event_faults.BadCount = faults.BadCount
fault_of event_faults.BadColumn = faults.BadColumn
fault_of event_faults.BadOk = faults.BadOk
fault_of event_faults.BadError = faults.BadError
fault_of event_faults.BadRow = faults.BadRow
fault_of event_faults.BadTerminator = faults.BadTerminator
fault_of event_faults.BadPrepare = faults.BadPrepare
fault_of event_faults.NotDue = faults.AfterEnd
fault_of event_faults.Memory = faults.Memory

-- A reply that goes on: what its payloads are read by and what is awaited of it, what is listed, what there is of one
-- more result, and how many payloads there were.
pub record OpenReply : Type 0 where
  pub context : Context
  pub so_far : events.ReplySoFar
  pub results : List Outcome
  pub progress : List ProgressReport
  pub part : Part
  pub count : ℕ

-- A reply is going on, or it has its answer.
pub data ReplySoFar : Type 0 where
  GoingOn : OpenReply → ReplySoFar
  Answered : Answer → ReplySoFar

-- The answer where this fault was met.
abbrev pub faulted_at : OpenReply → ReplyFault → Answer
faulted_at s fault = record { results = s.results ++ listed s.part; progress = s.progress; end = FaultAt s.count fault }

-- The reply behind a payload that is this event, behind which its payloads have led so far.
abbrev pub behind : OpenReply → Event → events.ReplySoFar → OpenReply
behind s event next = record {
  context = s.context;
  so_far = next;
  results = s.results ++ (put s.part event next).results;
  progress = s.progress ++ reported event;
  part = (put s.part event next).part;
  count = s.count + 1;
}

-- What a payload's step leads to: its event is put; or it has no place, and the reply has its answer.
abbrev pub led_by : OpenReply → table.Step → ReplySoFar
led_by s (Ok x) = GoingOn (behind s x.0 x.1)
led_by s (Err fault) = Answered (faulted_at s (fault_of fault))

-- The reply behind a payload.
abbrev pub after : ReplySoFar → Payload → ReplySoFar
after (GoingOn s) payload = led_by s (event_at s.context s.so_far payload)
after (Answered answer) payload = Answered answer

-- The reply behind payloads, one after another.
abbrev pub after_all : ReplySoFar → List Payload → ReplySoFar
after_all s [] = s
after_all s (payload ∷ payloads) = after_all (after s payload) payloads

-- The last result is whole, or the client's file is due.
abbrev pub is_over : events.Awaited → Bool
is_over events.Nothing = true
is_over events.FileData = true
is_over awaited = false

-- The end behind so many payloads, where the last result is whole or not, and this rest follows.
abbrev pub end_behind : Bool → ℕ → Rest → End
end_behind true count Empty = Whole
end_behind true count rest = FaultAt count AfterEnd
end_behind false count TooLarge = FaultAt count faults.TooLarge
end_behind false count OutOfSync = FaultAt count faults.OutOfSync
end_behind false count rest = Unfinished

-- The answer of a reply so far where no payload follows, but this rest.
abbrev pub answer_behind : ReplySoFar → Rest → Answer
answer_behind (GoingOn s) rest = record {
  results = s.results ++ listed s.part;
  progress = s.progress;
  end = end_behind (is_over s.so_far.awaited) s.count rest;
}
answer_behind (Answered answer) rest = answer

-- A reply of which no payload has come, where these columns stand, if some do.
abbrev pub fresh_with : Context → Option (List ColumnDefinition) → ReplySoFar
fresh_with c columns = GoingOn (record {
  context = c;
  so_far = table.fresh columns;
  results = [];
  progress = [];
  part = first_part c.kind columns;
  count = 0;
})

abbrev pub fresh : Context → ReplySoFar
fresh c = fresh_with c None

-- What a reply's payloads are read by: none of MariaDB's own capabilities is in force.
abbrev pub context_by : ReplyKind → CapabilityFlags → Context
context_by kind capabilities =
    record { kind = kind; capabilities = record { protocol = capabilities; mariadb = record { 0 = 0 } } }

-- The answer to these payloads with this rest.
abbrev pub reply_of : Context → List Payload → Rest → Answer
reply_of c payloads rest = answer_behind (after_all (fresh c) payloads) rest

abbrev pub IsReply : Context → List Payload → Rest → Answer → Type 0
IsReply c payloads rest answer = answer ≡ reply_of c payloads rest

-- Behind what was read, the payloads still to come and the rest after them decide this answer.
abbrev pub PayloadsDecide : ReplySoFar → List Payload → Rest → Answer → Type 0
PayloadsDecide s payloads rest answer = answer ≡ answer_behind (after_all s payloads) rest

-- Behind some payloads that is decided which was decided before over these and those to come.
abbrev pub PayloadsGoOn : Type 0
PayloadsGoOn = (s : ReplySoFar) (came payloads : List Payload) (rest : Rest) (answer : Answer) →
    PayloadsDecide (after_all s came) payloads rest answer → PayloadsDecide s (came ++ payloads) rest answer
