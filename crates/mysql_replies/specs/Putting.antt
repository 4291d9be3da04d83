-- Words of the reader's own body, which no public call's clause has: an event, put into what there is of a result.
-- MySQL: Client/Server Protocol, "COM_QUERY Response", "Text Resultset" and "COM_STMT_PREPARE Response".
use Rattle.std.specs.Prelude.{◌≡◌, ◌<◌, ◌≤◌, ◌+◌, List, [], ◌∷◌, Bool, true, false, Option, Some, None}
use Rattle.std.specs.Prelude.{Result, Ok, Err}
use Rattle.std.specs.Prelude.{vec_len, vec_capacity}
use Rattle.mysql_rows.specs.Rows.{Row}
use Rattle.mysql_reply_events.specs.Events as events
use Rattle.mysql_reply_events.specs.Events.{Event}
use Rattle.mysql_reply_events.specs.Events.Event.{RowEvent}
use Rattle.mysql_reply_events.specs.Reader.{GoesOn}
use Rattle.mysql_reply_events.specs.Table.{event_at}
use Rattle.mysql_reply_events.specs.Views.{event_view}
use Rattle.mysql_reply_events.specs.declared.event.ReplyEvent.{ReplyEvent}
use Rattle.mysql_reply_events.specs.declared.fault.ReplyFault.{ReplyFault as EventFault}
use Rattle.mysql_replies.specs.declared.fault.ReplyFault.{ReplyFault}
use Rattle.mysql_replies.specs.declared.fault.ReplyFault.TheVariants.{Memory}
use Rattle.mysql_replies.specs.declared.part.Listed.{Listed}
use Rattle.mysql_replies.specs.declared.part.Listed.TheVariants as lists
use Rattle.mysql_replies.specs.declared.part.Stepped.{Stepped}
use Rattle.mysql_replies.specs.declared.part.Stepped.TheVariants.{Failed, Moved}
use Rattle.mysql_replies.specs.declared.results.ReplyResult.{ReplyResult}
use Rattle.mysql_replies.specs.declared.state.ReplyState.{ReplyState}
use Rattle.mysql_replies.specs.Together.{Outcome, Put, listed}
use Rattle.mysql_replies.specs.Reply.{Payload, behind, fault_of, faulted_at}
use Rattle.mysql_replies.specs.States.{IsReading, UnlessMemory, open_reply}
use Rattle.mysql_replies.specs.Views.{outcome_view, part_view}

abbrev pub listed_views : Listed → List Outcome
listed_views lists.None = []
listed_views (lists.One first) = outcome_view first ∷ []
listed_views (lists.Two first second) = outcome_view first ∷ outcome_view second ∷ []

-- What is listed of a result, if anything is.
abbrev pub outcome_list : Option ReplyResult → List Outcome
outcome_list None = []
outcome_list (Some result) = outcome_view result ∷ []

-- A step put it so. Where memory ran out as much is listed as before.
abbrev pub IsPut : List Outcome → Put → Stepped → Type 0
IsPut before to (Moved results part) = (listed_views results ≡ to.results) × (part_view part ≡ to.part)
IsPut before to (Failed part) = listed (part_view part) ≡ before

-- Rows are due.
abbrev pub awaits_rows : events.Awaited → Bool
awaits_rows (events.Rows known) = true
awaits_rows awaited = false

-- There is room for what an event makes whole, and for what is left open behind it.
pub record HasRoomFor (s : ReplyState) : Type 0 where
  pub results : vec_len s.results + 3 ≤ vec_capacity s.results
  pub spare : vec_len s.spare < vec_capacity s.spare
  pub empty : s.spare.items ≡ []

-- The payload has no place, by this fault, unless memory ran out.
abbrev pub HasNoPlace : ReplyState → Payload → ReplyFault → Type 0
HasNoPlace old payload fault = UnlessMemory {X = Unit {0}} (Err fault)
    ((found : EventFault) × (event_at old.events.context old.events.so_far payload ≡ Err found) ×
    (fault ≡ fault_of found))

-- The same is listed, and a fault was met.
pub record HasStopped (old : ReplyState) (found : ReplyFault) (new : ReplyState) : Type 0 where
  pub fault : new.fault ≡ Some found
  pub answer : faulted_at (open_reply new) found ≡ faulted_at (open_reply old) found
  pub reading : IsReading new

-- An event was put, which the reader of events is behind; or memory ran out.
pub record HasPut (old : ReplyState) (event : Event) (new : ReplyState) : Type 0 where
  pub reply : open_reply new ≡ behind (open_reply old) event old.events.so_far
  pub fault : new.fault ≡ old.fault
  pub events : new.events ≡ old.events
  pub results : vec_len new.results < vec_capacity new.results
  pub spare : new.spare ≡ old.spare

abbrev pub PutsEvent : ReplyState → Event → Result (Unit {0}) ReplyFault → ReplyState → Type 0
PutsEvent old event (Ok _) new = HasPut old event new
PutsEvent old event (Err fault) new = (fault ≡ Memory) × HasStopped old Memory new

-- An event was read, and isn't put yet: nothing else has changed, and there is room.
pub record HasRead (old : ReplyState) (payload : Payload) (found : Event) (new : ReplyState) : Type 0 where
  pub event : event_at old.events.context old.events.so_far payload ≡ Ok (found, new.events.so_far)
  pub going : GoesOn old.events new.events
  pub room : HasRoomFor new
  pub results : new.results.items ≡ old.results.items
  pub rest : new ≡ record old { events = new.events; results = new.results; spare = new.spare }

abbrev pub ReadsEvent : ReplyState → Payload → Result ReplyEvent ReplyFault → ReplyState → Type 0
ReadsEvent old payload (Ok event) new = HasRead old payload (event_view event) new
ReadsEvent old payload (Err fault) new = HasStopped old fault new × HasNoPlace old payload fault

-- A row that was due is behind those so far; or nothing has changed; or a fault was met.
pub record HasTakenRow (old : ReplyState) (payload : Payload) (new : ReplyState) : Type 0 where
  pub row : Row
  pub event : event_at old.events.context old.events.so_far payload ≡ Ok (RowEvent row, new.events.so_far)
  pub reply : open_reply new ≡ behind (open_reply old) (RowEvent row) new.events.so_far
  pub fault : new.fault ≡ None
  pub reading : IsReading new

abbrev pub TakesRow : ReplyState → Payload → Result Bool ReplyFault → ReplyState → Type 0
TakesRow old payload (Ok true) new = HasTakenRow old payload new
TakesRow old payload (Ok false) new = (new ≡ record old { spare = new.spare }) × IsReading new
TakesRow old payload (Err fault) new = HasStopped old fault new × HasNoPlace old payload fault
