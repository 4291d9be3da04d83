-- Why an event isn't put, in order, and what a put that isn't refused appends.
-- MySQL: Client/Server Protocol, "Connection Lifecycle" and "MySQL Packets".
use Rattle.std.specs.Prelude.{◌≡◌, ℕ, ◌<◌, ◌≤◌, true, false, List, ◌++◌, length}
use Rattle.std.specs.Prelude.{Option, Some, None, Ok}
use Rattle.mysql_connection_rules.specs.Events.{Event, side_of}
use Rattle.mysql_connection_rules.specs.Standing.{Standing, kept}
use Rattle.mysql_connection_rules.specs.Streams.{World, limit_of, room_to_keep}
use Rattle.mysql_connection_rules.specs.Puts.{MayBePut, is_due, packets_for, put_on, step_for}

pub data PutRefusal : Type 0 where
  -- It isn't its side's turn, nor may last words be said; or the side's stream has ended, or has
  -- bytes that come first.
  NotDue : PutRefusal
  -- No packet says it here.
  BadEvent : PutRefusal
  -- Its payload is longer than the limit of its side.
  TooLarge : PutRefusal
  -- What is kept behind it is more than its room.
  Held : PutRefusal

-- The payload, where one was written at all, says something else or nothing.
abbrev pub IsUnsaid : World → Event → Option (List ℕ) → Type 0
IsUnsaid w event None = Unit {0}
IsUnsaid w event (Some payload) =
    (after : Standing) → step_for event w.standing payload ≡ Ok (event, after) → ⊥

-- The payload that was written says the event.
abbrev pub IsSaidBy : World → Event → Option (List ℕ) → Type 0
IsSaidBy w event written = (payload : List ℕ) × (after : Standing) ×
    (written ≡ Some payload) × (step_for event w.standing payload ≡ Ok (event, after))

-- The event may be put by the payload that was written.
abbrev pub IsPutBy : World → Event → Option (List ℕ) → Type 0
IsPutBy w event written = (payload : List ℕ) × (after : Standing) ×
    (written ≡ Some payload) × MayBePut w event payload after

-- The event is due, and the payload says it and leads there.
pub record IsSaid (w : World) (event : Event) (written : Option (List ℕ)) (payload : List ℕ)
    (after : Standing) : Type 0 where
  pub due : is_due w event ≡ true
  pub is_written : written ≡ Some payload
  pub says : step_for event w.standing payload ≡ Ok (event, after)

-- When each refusal comes, of an event for which this payload was written, or none could be: the
-- first that holds.
abbrev pub Refuses : World → Event → Option (List ℕ) → PutRefusal → Type 0
Refuses w event written NotDue = is_due w event ≡ false
Refuses w event written BadEvent = (is_due w event ≡ true) × IsUnsaid w event written
Refuses w event written TooLarge = (payload : List ℕ) × (after : Standing) ×
    IsSaid w event written payload after × (limit_of (side_of event) w.limits < length payload)
Refuses w event written Held = (payload : List ℕ) × (after : Standing) ×
    IsSaid w event written payload after × (length payload ≤ limit_of (side_of event) w.limits) ×
    (room_to_keep w.limits < kept after)

-- The packets of the payload were appended, and the connection goes on behind them.
pub record Written (old : World) (event : Event) (payload : List ℕ) (new : World)
    (before behind : List ℕ) : Type 0 where
  pub after : Standing
  pub may : MayBePut old event payload after
  pub goes : new ≡ put_on old event payload after
  pub appended : behind ≡ before ++ packets_for event old.standing payload
