use Rattle.std.proofs.Common.{Ok, Err, ap, arith}
use Rattle.std.proofs.lemmas.Result.{err_from_is_err_and}
use Rattle.mysql_reply_events.specs.Views.{event_view}
use Rattle.mysql_replies.specs.declared.state.ReplyState.{ReplyState}
use Rattle.mysql_replies.specs.Putting.{HasPut}
use Rattle.mysql_replies.specs.RowSteps.{StateBorrowsNext}
use Rattle.mysql_replies.proofs.Lent.{no_row, passed, put_rows_kept}
use Rattle.mysql_replies.proofs.RowSteps.{failed_step}
use Rattle.mysql_replies.proofs.Taken.{behind_event, behind_fault}
use Rattle.mysql_replies.proofs.state.ReplyState.pass.Goals as goal

pub returns-in_err-event-clause-step : goal.returns-in_err-event-clause-step
returns-in_err-event-clause-step c =
    let old = c.args.self.now in
    let new = c.read_event.new.self in
    let fault = c.in_err-event.field-0.0 in
    let p = err_from_is_err_and c.from_residual.result c.from_residual.ensures.1 in
    let h = behind_fault old new c.args.payload.now fault c.requires.going c.in_err-event.ensures in
    let step : StateBorrowsNext old c.args.payload.now (Err fault) new =
    failed_step old new c.args.payload.now fault c.requires.going c.requires.room h.fault
    h.goes_on h.short in
    rw (p.1, p.2) step

pub put-requires : goal.put-requires
put-requires c = record {
  room = c.in_ok-event.ensures.room;
  number = let same = ap (λ (s : ReplyState). s.count) c.in_ok-event.ensures.rest in omega arith;
}

pub returns-in_ok-put-in_default : goal.returns-in_ok-put-in_default
returns-in_ok-put-in_default c =
    let old = c.args.self.now in
    let between = c.read_event.new.self in
    let new = c.put.new.self in
    let payload = c.args.payload.now in
    let event = event_view c.in_ok-event.event in
    let put : HasPut between event new = c.in_ok-put-in_default.ensures in
    let h = behind_event old between new payload event (Ok tt) c.requires.reading c.requires.going
    c.in_ok-event.ensures put in
    let kept = put_rows_kept old between new payload event (Ok tt) c.requires.going
    (no_row c.in_ok-event.event c.in_default.not-Row) c.in_ok-event.ensures put in
    let k = passed old new payload c.requires.going c.requires.room h kept in
    record { reading = k.reading; ok = k.ok; fault = k.fault; step = k.step; keeps_none = k.keeps_none }
