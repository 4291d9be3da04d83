-- What a call that puts an event does. (MySQL: Client/Server Protocol, "COM_QUERY Response".)
use Rattle.std.specs.Prelude.{◌≡◌, ◌≢◌, List, ℕ, ◌++◌, Bool, true, false, ◌&&◌, Option, Some, None, is_none}
use Rattle.std.specs.Prelude.{Result, Ok, Err}
use Rattle.std.specs.declared.alloc.AllocError.{AllocError}
use Rattle.mysql_reply_events.specs.Events.{Event, Payload, ReplySoFar}
use Rattle.mysql_reply_events.specs.Behind.{behind}
use Rattle.mysql_reply_events.specs.Reader.{GoesOn, ReaderState}
use Rattle.mysql_reply_events.specs.Table.{event_at, is_due}
use Rattle.mysql_reply_event_writer.specs.declared.refusal.ReplyPutRefusal.{ReplyPutRefusal}
use Rattle.mysql_reply_event_writer.specs.declared.refusal.ReplyPutRefusal.TheVariants.{BadEvent, Memory, NotDue}
use Rattle.mysql_reply_event_writer.specs.Written.{event_payload}

-- A call appended the payload, or refused since there is none, or for want of memory, and left what was there.
abbrev pub WritesPayload : Option Payload → List ℕ → List ℕ → Result (Unit {0}) ReplyPutRefusal → Type 0
WritesPayload (Some payload) old new (Ok _) = new ≡ old ++ payload
WritesPayload None old new (Ok _) = ⊥
WritesPayload payload old new (Err BadEvent) = (payload ≡ None) × (new ≡ old)
WritesPayload payload old new (Err Memory) = new ≡ old
WritesPayload payload old new (Err NotDue) = ⊥

-- What was answered, where it is refused for want of memory alone.
abbrev pub memory_alone : Result (Unit {0}) AllocError → Result (Unit {0}) ReplyPutRefusal
memory_alone (Ok x) = Ok x
memory_alone (Err e) = Err Memory

-- The event has a payload, which is read as it.
pub record CanBePut (reader : ReaderState) (event : Event) : Type 0 where
  pub payload : Payload
  pub next : ReplySoFar
  pub is_payload : event_payload reader.context event ≡ Some payload
  pub reads : event_at reader.context reader.so_far payload ≡ Ok (event, next)

-- The event's payload was appended, and is read as it: a payload of the server is due.
pub record IsWritten (reader : ReaderState) (event : Event) (before after : List ℕ) : Type 0 where
  pub going : reader.fault ≡ None
  pub payload : Payload
  pub is_payload : event_payload reader.context event ≡ Some payload
  pub appended : after ≡ before ++ payload
  pub reads : event_at reader.context reader.so_far payload ≡ Ok (event, behind reader.context reader.so_far event)

-- A payload of the server is due, and no fault was found.
abbrev pub takes_payload : ReaderState → Bool
takes_payload reader = is_none reader.fault && is_due reader.so_far.awaited

-- When each refusal of an event comes. Want of memory may stand in place of any.
abbrev pub RefusesEvent : ReaderState → Event → ReplyPutRefusal → Type 0
RefusesEvent reader event NotDue = takes_payload reader ≡ false
RefusesEvent reader event BadEvent = (takes_payload reader ≡ true) × ¬ (CanBePut reader event)
RefusesEvent reader event Memory = Unit {0}

-- What a call that writes an event does, by a reader that stays as it is. A refusal leaves the buffer as it was.
abbrev pub WritesEvent : ReaderState → Event → Result (Unit {0}) ReplyPutRefusal → List ℕ → List ℕ → Type 0
WritesEvent reader event (Ok _) before after = IsWritten reader event before after
WritesEvent reader event (Err refusal) before after = RefusesEvent reader event refusal × (after ≡ before)

-- The event's payload was appended, and the reader is behind it.
pub record IsPut (old : ReaderState) (event : Event) (new : ReaderState) (before after : List ℕ) : Type 0 where
  pub payload : Payload
  pub is_payload : event_payload old.context event ≡ Some payload
  pub appended : after ≡ before ++ payload
  pub reads : event_at old.context old.so_far payload ≡ Ok (event, new.so_far)
  pub goes_on : GoesOn old new

-- What a call that puts an event does. A refusal leaves the reader and the buffer as they were.
abbrev pub Puts : ReaderState → Event → Result (Unit {0}) ReplyPutRefusal → ReaderState → List ℕ → List ℕ → Type 0
Puts old event (Ok _) new before after = IsPut old event new before after
Puts old event (Err refusal) new before after = RefusesEvent old event refusal × (new ≡ old) × (after ≡ before)

-- A payload is read as an event.
abbrev pub IsTold : ReaderState → Event → Payload → Type 0
IsTold reader event payload =
    (next : ReplySoFar) × (event_at reader.context reader.so_far payload ≡ Ok (event, next))

-- A reader goes on behind an event, or stays as it was for want of memory.
abbrev pub GoesBehind : ReaderState → Event → Result (Unit {0}) AllocError → ReaderState → Type 0
GoesBehind old event (Ok _) new = (new.so_far ≡ behind old.context old.so_far event) × GoesOn old new
GoesBehind old event (Err e) new = new ≡ old

-- Whether a payload is read as an event.
abbrev pub Tells : ReaderState → Event → Payload → Result Bool ReplyPutRefusal → Type 0
Tells reader event payload (Ok true) = IsTold reader event payload
Tells reader event payload (Ok false) =
    (next : ReplySoFar) → event_at reader.context reader.so_far payload ≢ Ok (event, next)
Tells reader event payload (Err refusal) = refusal ≡ Memory
