use Rattle.std.proofs.Common.{◌≡◌, Bool, ◌-◌, true, Ok, length, take, drop, rules, subst}
use Rattle.mysql_reply_events.specs.Views.{event_view}
use Rattle.mysql_reply_event_writer.specs.Puts.{Tells, takes_payload}
use Rattle.mysql_reply_event_writer.proofs.Putting.{is_written}
use Rattle.mysql_reply_event_writer.proofs.put.write_event.Goals as goal

pub returns-in-Ok-true : goal.returns-in-Ok-true
returns-in-Ok-true c =
    let len : c.len-len.result ≡ length c.args.out.now.items = search rules in
    let takes : takes_payload c.args.reader.now ≡ true = search rules in
    let told = subst (λ (b : Bool). Tells c.args.reader.now (event_view c.args.event.now)
    (take (length c.deref.result.now - c.len-len.result)
    (drop c.len-len.result c.deref.result.now)) (Ok b)) c.in-Ok-true.field-0-test
    c.in-Ok-true.ensures in
    is_written c.args.reader.now c.context.result (event_view c.args.event.now) c.args.out.now.items
    c.write_payload.new.out.items c.deref.result.now c.len-len.result
    c.in_ok-write_payload.field-0
    c.events_lead_on.ensures takes c.context.ensures c.in_ok-write_payload.ensures c.deref.ensures.value len told
