use Rattle.std.proofs.Common.{ap, arith}
use Rattle.std.proofs.lemmas.Result.{err_from_is_err_and}
use Rattle.mysql_reply_events.specs.Views.{event_view}
use Rattle.mysql_replies.specs.declared.state.ReplyState.{ReplyState}
use Rattle.mysql_replies.proofs.Taken.{IsBehind, behind_event, behind_fault}
use Rattle.mysql_replies.proofs.state.ReplyState.take_event.Goals as goal

pub returns-in_err-event : goal.returns-in_err-event
returns-in_err-event c =
    let p = err_from_is_err_and c.from_residual.result c.from_residual.ensures.1 in
    let h = behind_fault c.args.self.now c.read_event.new.self c.args.payload.now
    c.in_err-event.field-0.0 c.requires.going c.in_err-event.ensures in
    let k : IsBehind c.args.self.now c.args.payload.now c.from_residual.result
    c.read_event.new.self = rw (p.1, p.2) h in
    record { reading = k.reading; ok = k.ok; fault = k.fault; goes_on = k.goes_on; short = k.short }

pub put-requires : goal.put-requires
put-requires c = record {
  room = c.in_ok-event.ensures.room;
  number = let same = ap (λ (s : ReplyState). s.count) c.in_ok-event.ensures.rest in omega arith;
}

pub returns : goal.returns
returns c =
    let h = behind_event c.args.self.now c.read_event.new.self c.put.new.self c.args.payload.now
    (event_view c.in_ok-event.event) c.put.result c.requires.reading c.requires.going
    c.in_ok-event.ensures c.put.ensures in
    record { reading = h.reading; ok = h.ok; fault = h.fault; goes_on = h.goes_on; short = h.short }
