-- What a call that writes an event does.
-- MySQL: Client/Server Protocol, "Connection Lifecycle".
use Rattle.std.specs.Prelude.{◌≡◌, ℕ, List, ◌++◌, Option, Some, Result, Ok, Err}
use Rattle.mysql_connection_rules.specs.Puts.{step_for}
use Rattle.mysql_connection_rules.specs.Events.{Event}
use Rattle.mysql_connection_rules.specs.Standing.{Standing}
use Rattle.mysql_connection_writer.specs.Payloads.{Payload, cause_of, payload_of}
use Rattle.mysql_connection_writer.specs.declared.refusal.BadEvent.{BadEvent}
use Rattle.mysql_connection_writer.specs.declared.refusal.EventRefusal.{EventRefusal}
use Rattle.mysql_connection_writer.specs.declared.refusal.EventRefusal.TheVariants as refusals

-- A payload says the event where it stands, and leads somewhere.
abbrev pub Says : Standing → Event → Payload → Type 0
Says s event payload = (after : Standing) × (step_for event s payload ≡ Ok (event, after))

-- A payload that is there was appended, and reads as it should.
pub record IsWritten (Reads : Payload → Type 0) (found : Option Payload) (old new : List ℕ) : Type 0
  where
    pub payload : Payload
    pub is_payload : found ≡ Some payload
    pub appended : new ≡ old ++ payload
    pub reads : Reads payload

-- There is none, or it reads otherwise.
abbrev pub IsUnread : (Payload → Type 0) → Option Payload → Type 0
IsUnread Reads found = (payload : Payload) → found ≡ Some payload → Reads payload → ⊥

-- The payload was appended, where it reads as it should; or nothing was, since it doesn't, for this
-- cause, or since memory ran out.
abbrev pub Writes : (Payload → Type 0) → Option Payload → BadEvent → (old new : List ℕ) →
    Result (Unit {0}) EventRefusal → Type 0
Writes Reads found cause old new (Ok done) = IsWritten Reads found old new
Writes Reads found cause old new (Err (refusals.BadEvent told)) =
    (new ≡ old) × IsUnread Reads found × (told ≡ cause)
Writes Reads found cause old new (Err refusals.Memory) = new ≡ old

-- The event's payload was appended, which says it where it stands; or nothing was.
abbrev pub WritesEvent : Standing → Event → (old new : List ℕ) → Result (Unit {0}) EventRefusal →
    Type 0
WritesEvent s event old new result =
    Writes (Says s event) (payload_of s event) (cause_of s event) old new result
