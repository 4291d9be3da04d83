use Rattle.mysql_reply_events.specs.Views.{event_view}
use Rattle.mysql_connection_writer.proofs.Replies.{no_reply_due, reply_written}
use Rattle.mysql_connection_writer.proofs.reply.write_reply.Goals as goal

pub put_event-requires : goal.put_event-requires
put_event-requires c = c.in-Some.ensures.1.fault

pub returns-in-Some : goal.returns-in-Some
returns-in-Some c =
    reply_written c.args.state.now.standing c.in-Some.reader.now (event_view c.args.said.now)
    c.args.out.now.items c.put_event.new.out.items c.put_event.result c.in-Some.ensures c.put_event.ensures

pub returns-in-None : goal.returns-in-None
returns-in-None c =
    no_reply_due c.args.state.now.standing (event_view c.args.said.now) c.args.out.now.items c.in-None.ensures
