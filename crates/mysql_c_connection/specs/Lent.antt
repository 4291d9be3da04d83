-- Rows that are lent: what was told last, and what the call says that lends them.
-- MySQL: Client/Server Protocol, "Text Resultset Row" and "Binary Protocol Resultset Row".
use Rattle.std.specs.Prelude.{◌≡◌, ◌≢◌, ℕ, List, length, slice_get, Option, Some, None, Result, Ok, Err}
use Rattle.std.specs.Prelude.{IfOk, IfSome, option_map}
use Rattle.mysql_cells.specs.declared.value.Value.{Value}
use Rattle.mysql_connection_machine.specs.Machines.{AnswersFault, AnswersLent, LentHasUnclear, Machine, TakesBytes}
use Rattle.mysql_connection_machine.specs.Machines.{failure_in}
use Rattle.mysql_connection_machine.specs.Modes.{Knows, event_in_lent}
use Rattle.mysql_connection_machine.specs.declared.fault.ConnectionFault.{ConnectionFault}
use Rattle.mysql_connection_machine.specs.declared.lent_event.LentEvent.{LentEvent}
use Rattle.mysql_connection_machine.specs.declared.lent_event.LentEvent.TheVariants as lent
use Rattle.mysql_connection_rules.specs.Events as said
use Rattle.mysql_connection_rules.specs.Events.{Event}
use Rattle.mysql_connection_state.specs.Views.{event_view}
use Rattle.mysql_connection_state.specs.declared.event.Event.{Event as HeldEvent}
use Rattle.mysql_reply_events.specs.Events.Event.{RowEvent}
use Rattle.mysql_reply_events.specs.Events.{Event as ReplySaid}
use Rattle.mysql_row_refs.specs.RowRefs.{row_ref_view}
use Rattle.mysql_rows.specs.Rows.{Row, cell_at}
use Rattle.mysql_c_replies.specs.Shown.{ShowsValue}
use Rattle.mysql_c_replies.specs.declared.shown.ShownValue.{ShownValue}
use Rattle.mysql_c_connection.specs.declared.object.OpenConnection.{OpenConnection}
use Rattle.mysql_c_connection.specs.declared.values.Told.{Told}
use Rattle.mysql_c_connection.specs.declared.values.Told.TheVariants as told
use Rattle.mysql_c_connection.specs.Events.{event_shown}
use Rattle.mysql_c_connection.specs.Opened.{next_number}
use Rattle.mysql_c_connection_events.specs.Shown.{blank_shown}
use Rattle.mysql_c_connection_events.specs.declared.shown.ShownEvent.{ShownEvent}

-- the event that a row of a reply is
abbrev pub row_said : Row → Event
row_said row = said.Replied (RowEvent row)

-- the event that was told last: the one that is held, else the row that is lent
abbrev pub event_told : Option HeldEvent → Option Row → Option Event
event_told (Some event) row = Some (event_view event)
event_told None row = option_map row_said row

-- an event where it lies
abbrev pub told_view : Told → Event
told_view (told.Event event) = event_view event.now
told_view (told.Row row) = row_said (row_ref_view row)

-- what the machine says of an answer of the next event, of which a row is lent
pub record NextAnswersLent (old : Machine) (answer : Result (Option LentEvent) ConnectionFault)
    (new : Machine) : Type 0 where
  pub failed : IfSome old.failure (λ failure. AnswersFault answer failure × (new ≡ old))
  pub answers : old.failure ≡ None → AnswersLent old.world answer (record { world = new.world; row = new.row })
  pub unclear : IfOk answer (λ found. IfSome found (λ event. LentHasUnclear old.world event))
  pub fault : old.failure ≡ None → new.failure ≡ failure_in answer
  pub fewer : TakesBytes old.world answer new.world
  pub mode : Knows old (event_in_lent answer) new

-- the event that is held of an answer: none of a row that is lent
abbrev pub held_of : Result (Option LentEvent) ConnectionFault → Option HeldEvent
held_of (Ok (Some (lent.Event event))) = Some event
held_of answer = None

-- a cell is shown at its place; where the row has none, the place stays as it was
abbrev pub ShowsCell : Option Value → (old new : Option ShownValue) → Type 0
ShowsCell None old new = new ≡ old
ShowsCell (Some value) old new = IfSome new (ShowsValue value)

-- a cell is shown at its place, and no other place changes
abbrev pub ShowsAt : Option Value → ℕ → (old new : List ShownValue) → Type 0
ShowsAt cell place old new = (length new ≡ length old) ×
    ShowsCell cell (slice_get old place) (slice_get new place) ×
    ((other : ℕ) → other ≢ place → slice_get new other ≡ slice_get old other)

-- the cells of a row are shown, as many as there are places
pub record ShowsRow (row : Row) (old new : List ShownValue) : Type 0 where
  pub as_many : length new ≡ length old
  pub each : (place : ℕ) → ShowsCell (cell_at row (Some place)) (slice_get old place) (slice_get new place)

-- the cells of a payload that is a row are shown, and of another one none
abbrev pub ShowsReplyCells : ReplySaid → (old new : List ShownValue) → Type 0
ShowsReplyCells (RowEvent row) old new = ShowsRow row old new
ShowsReplyCells reply old new = new ≡ old

abbrev pub ShowsCells : Event → (old new : List ShownValue) → Type 0
ShowsCells (said.Replied reply) old new = ShowsReplyCells reply old new
ShowsCells event old new = new ≡ old

-- an event is shown by the statements that stand behind it
pub record ShowsLent (now : Machine) (event : Event) (old new : List ShownValue)
    (shown : ShownEvent) : Type 0 where
  pub event_is : shown ≡ event_shown now.world.standing.statements event shown
  pub cells : ShowsCells event old new

-- what is shown of an answer: without an event the kind is 0, it is nobody's, and no cell is shown
abbrev pub IsShownLent : OpenConnection → Result (Option LentEvent) ConnectionFault →
    (old new : List ShownValue) → ShownEvent → Type 0
IsShownLent now (Ok (Some event)) old new shown = IfSome (event_told now.event now.connection.row)
    (λ told. ShowsLent now.connection told old new shown)
IsShownLent now (Ok None) old new shown = (shown ≡ blank_shown 0 2 shown) × (new ≡ old)
IsShownLent now (Err fault) old new shown = new ≡ old

-- The machine answers what comes next, of which a row is lent and any other event held. It is shown, or its
-- fault's number is told.
pub record TellsLent (number : ℕ) (old new : OpenConnection) (cells shown_cells : List ShownValue)
    (shown : ShownEvent) : Type 0 where
  pub answer : Result (Option LentEvent) ConnectionFault
  pub next : NextAnswersLent old.connection answer new.connection
  pub event : new.event ≡ held_of answer
  pub end : new.end ≡ None
  pub number_is : number ≡ next_number answer
  pub is_shown : IsShownLent new answer cells shown_cells shown
