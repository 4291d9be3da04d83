-- What an event leaves is within the limits.
use Rattle.std.proofs.Common.{Option, Some, None, Ok, subst, sym}
use Rattle.mysql_connection_rules.specs.Laws.{EventsStayWithinLimits, WithinLimits}
use Rattle.mysql_connection_rules.specs.Streams.{World}
use Rattle.mysql_connection_state.specs.Views.{event_view}
use Rattle.mysql_connection_state.specs.declared.event.Event.{Event}
use Rattle.mysql_connection_rules.specs.Events.Event.{Replied}
use Rattle.mysql_reply_events.specs.Events.Event.{RowEvent}
use Rattle.mysql_connection_machine.specs.Machines.{Answers, AnswersLent, LendingWorld}
use Rattle.mysql_connection_machine.specs.declared.lent_event.LentEvent.{LentEvent}
use Rattle.mysql_connection_machine.specs.declared.lent_event.LentEvent.TheVariants as lent

pub answers_stay : EventsStayWithinLimits → (old new : World) (event : Option Event) →
    Answers old (Ok event) new → WithinLimits old → WithinLimits new
answers_stay stay old new None answers within = subst WithinLimits (sym answers.1) within
answers_stay stay old new (Some event) answers within =
    stay old new (event_view event) answers within

pub lent_stays : EventsStayWithinLimits → (old : World) (new : LendingWorld)
    (event : Option LentEvent) → AnswersLent old (Ok event) new → WithinLimits old →
    WithinLimits new.world
lent_stays stay old new None answers within =
    subst (λ (w : LendingWorld). WithinLimits w.world) (sym answers.1) within
lent_stays stay old new (Some lent.Row) answers within =
    stay old new.world (Replied (RowEvent answers.0)) answers.2 within
lent_stays stay old new (Some (lent.Event event)) answers within =
    stay old new.world (event_view event) answers.0 within
