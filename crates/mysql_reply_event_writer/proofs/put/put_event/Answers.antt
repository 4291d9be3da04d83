use Rattle.std.proofs.Common.{◌≡◌, length, rules, ◌∙◌}
use Rattle.mysql_reply_events.specs.Views.{event_view}
use Rattle.mysql_reply_event_writer.proofs.Putting.{is_put, taken_back}
use Rattle.mysql_reply_event_writer.proofs.put.put_event.Goals as goal

pub returns-in-Ok : goal.returns-in-Ok
returns-in-Ok c =
    is_put c.args.reader.now c.go_behind.new.reader (event_view c.args.event.now)
    c.args.out.now.items c.write_event.new.out.items
    c.in_ok-write_event.ensures c.in-Ok.ensures.0 c.in-Ok.ensures.1

pub returns-in-Err : goal.returns-in-Err
returns-in-Err c =
    let len : c.len-len.result ≡ length c.args.out.now.items = search rules in
    let written = c.in_ok-write_event.ensures in (
      tt,
      c.in-Err.ensures,
      c.truncate.ensures.items ∙
          taken_back c.args.out.now.items written.payload c.write_event.new.out.items c.len-len.result
          written.appended len,
    )
