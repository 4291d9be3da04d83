use Rattle.std.proofs.Common.{◌≡◌, Result, Ok, ap, ◌∙◌}
use Rattle.std.proofs.lemmas.Result.{err_from_is_err_and}
use Rattle.mysql_columns.specs.Views.{extended_view}
use Rattle.mysql_reply_events.specs.declared.event.ReplyEvent.{ReplyEvent}
use Rattle.mysql_reply_events.specs.declared.fault.ReplyFault.{ReplyFault}
use Rattle.mysql_reply_events.specs.Behind.{behind, behind_column}
use Rattle.mysql_reply_events.specs.Events.{Event}
use Rattle.mysql_reply_events.specs.Events.Event.{ColumnEvent}
use Rattle.mysql_reply_events.specs.States.{so_far}
use Rattle.mysql_reply_events.specs.Table.{event_at}
use Rattle.mysql_reply_events.specs.Views.{event_view}
use Rattle.mysql_reply_events.proofs.Peeking.{reads_on, refuses}
use Rattle.mysql_reply_events.proofs.reader.step.Goals as goal

pub returns-in_err-event-clause-step : goal.returns-in_err-event-clause-step
returns-in_err-event-clause-step c =
    let p = err_from_is_err_and c.from_residual.result c.from_residual.ensures.1 in
    rw (p.1, p.2) (refuses (event_at c.args.context (so_far c.args.state.now) c.args.payload.now)
    c.in_err-event.field-0.0 _ c.in_err-event.ensures)

pub returns-in_ok-take_column-in-Column-clause-step : goal.returns-in_ok-take_column-in-Column-clause-step
returns-in_ok-take_column-in-Column-clause-step c =
    let s = so_far c.args.state.now in
    reads_on c.args.context s c.args.payload.now (ColumnEvent (extended_view c.in-Column.column))
    (so_far c.take_column.new.state)
    (c.in_ok-event.ensures ∙ ap (λ (event : ReplyEvent). let said : Result Event ReplyFault =
    Ok (event_view event) in said) c.in-Column.is)
    (c.in_ok-take_column-in-Column.ensures.taken ∙ ap (behind_column c.args.context s s.awaited) c.column.ensures)

pub returns-in_default : goal.returns-in_default
returns-in_default c =
    let s = so_far c.args.state.now in
    let next : so_far c.pass.new.state ≡ behind c.args.context s (event_view c.in_ok-event.event) =
    cc (c.pass.ensures.behind, c.in_default.event-is) in
    record {
      step = reads_on c.args.context s c.args.payload.now (event_view c.in_ok-event.event)
          (so_far c.pass.new.state) c.in_ok-event.ensures next;
      kept = tt;
      format = ap (λ standing. standing.format) c.pass.ensures.standing;
    }
