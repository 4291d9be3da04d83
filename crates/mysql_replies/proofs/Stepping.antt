-- What a payload leads to: its event is put, or it has no place, or memory ran out.
use Rattle.std.proofs.Common.{◌≡◌, Option, None, Ok, Err, ap, sym, subst, ◌∙◌}
use Rattle.mysql_reply_events.specs.Events.{Event}
use Rattle.mysql_reply_events.specs.Events.Event.{RowEvent}
use Rattle.mysql_reply_events.specs.Table.{Step, event_at}
use Rattle.mysql_reply_events.specs.declared.fault.ReplyFault.{ReplyFault as EventFault}
use Rattle.mysql_replies.specs.declared.fault.ReplyFault.{ReplyFault}
use Rattle.mysql_replies.specs.declared.fault.ReplyFault.TheVariants as faults
use Rattle.mysql_replies.specs.declared.state.ReplyState.{ReplyState}
use Rattle.mysql_replies.specs.Reply.{Answered, GoingOn, Payload, ReplySoFar, after, after_all, answer_behind, behind}
use Rattle.mysql_replies.specs.Reply.{fault_of, faulted_at, led_by}
use Rattle.mysql_replies.specs.Putting.{HasPut, HasRead, HasStopped, HasTakenRow}
use Rattle.mysql_replies.specs.States.{IsShortOf, StateGoesOn, faulted, open_reply, reply_so_far}
use Rattle.mysql_replies.specs.Views.{outcome_views}

-- The state behind a payload's step goes on.
pub goes_by : (before next : ReplyState) (payload : Payload) (step : Step) → before.fault ≡ None →
    event_at before.events.context before.events.so_far payload ≡ step → reply_so_far next ≡
    led_by (open_reply before) step → StateGoesOn before payload next
goes_by before next payload step going is led z rest answer h =
    let same : reply_so_far next ≡ after (reply_so_far before) payload =
    led ∙ ap (led_by (open_reply before)) (sym is) ∙
    ap (λ (f : Option ReplyFault). after (faulted (open_reply before) f) payload) (sym going) in
    subst (λ (s : ReplySoFar). answer ≡ answer_behind (after_all s z) rest) same h

-- An event was read, and then put.
pub reply_behind : (before between next : ReplyState) (payload : Payload) (event : Event) →
    HasRead before payload event between → HasPut between event next → open_reply next ≡
    behind (open_reply before) event between.events.so_far
reply_behind before between next payload event read put =
    put.reply
    ∙ ap (λ (s : ReplyState). behind (open_reply s) event between.events.so_far) read.rest
    ∙ (λ i. behind (record (open_reply before) {
      context = read.going.context i;
      so_far =
          between.events.so_far;
      results = outcome_views (read.results i);
    }) event
    between.events.so_far)

pub event_went : (before between next : ReplyState) (payload : Payload) (event : Event) →
    before.fault ≡ None → HasRead before payload event between → HasPut between event next →
    reply_so_far next ≡ led_by (open_reply before) (Ok (event, between.events.so_far))
event_went before between next payload event going read put =
    let fault : next.fault ≡ None = put.fault ∙ ap (λ (s : ReplyState). s.fault) read.rest ∙ going in
    ap (faulted (open_reply next)) fault ∙ ap GoingOn (reply_behind before between next payload event read put)

pub read_goes : (before between next : ReplyState) (payload : Payload) (event : Event) →
    before.fault ≡ None → HasRead before payload event between → HasPut between event next →
    StateGoesOn before payload next
read_goes before between next payload event going read put =
    goes_by before next payload (Ok (event, between.events.so_far)) going read.event
    (event_went before between next payload event going read put)

-- A row was taken in place.
pub row_goes : (before next : ReplyState) (payload : Payload) → before.fault ≡ None →
    HasTakenRow before payload next → StateGoesOn before payload next
row_goes before next payload going taken =
    goes_by before next payload (Ok (RowEvent taken.row, next.events.so_far)) going taken.event
    (ap (faulted (open_reply next)) taken.fault ∙ ap GoingOn taken.reply)

-- The same is listed, with a fault.
stopped_is : (before next : ReplyState) (fault : ReplyFault) → HasStopped before fault next →
    reply_so_far next ≡ Answered (faulted_at (open_reply before) fault)
stopped_is before next fault stopped = ap (faulted (open_reply next)) stopped.fault ∙ ap Answered stopped.answer

-- The payload has no place.
pub refused_goes : (before next : ReplyState) (payload : Payload) (fault : ReplyFault)
    (found : EventFault) → before.fault ≡ None → HasStopped before fault next →
    event_at before.events.context before.events.so_far payload ≡ Err found → fault ≡
    fault_of found → StateGoesOn before payload next
refused_goes before next payload fault found going stopped is named =
    goes_by before next payload (Err found) going is
    (stopped_is before next fault stopped ∙ ap (λ (f : ReplyFault). Answered (faulted_at (open_reply before) f)) named)

-- Memory ran out.
pub falls_short : (before next : ReplyState) → HasStopped before faults.Memory next → IsShortOf before next
falls_short before next stopped = stopped_is before next faults.Memory stopped
