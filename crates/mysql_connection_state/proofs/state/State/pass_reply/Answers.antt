use Rattle.std.proofs.Common.{◌≡◌, Ok}
use Rattle.mysql_reply_events.specs.Events.{ReplySoFar}
use Rattle.mysql_reply_events.specs.Table.{event_at}
use Rattle.mysql_reply_events.specs.Views.{event_view as reply_view}
use Rattle.mysql_connection_rules.specs.Standing.{InReply}
use Rattle.mysql_connection_rules.specs.Standing.Phase.{Reply}
use Rattle.mysql_connection_rules.specs.Steps.{context_of}
use Rattle.mysql_connection_state.proofs.state.State.pass_reply.Goals as goal

pub returns-clause-goes : goal.returns-clause-goes
returns-clause-goes c = λ (r : InReply) (next : ReplySoFar) (is : c.args.self.now.standing.phase ≡ Reply r)
    (reads : event_at (context_of c.args.self.now.standing r) r.so_far c.args.payload.now ≡
    Ok (reply_view c.args.event.now, next)).
    let leads = c.events_lead_on.ensures (context_of c.args.self.now.standing r) r.so_far
    c.args.payload.now (reply_view c.args.event.now) next reads in
    rw (leads, ← c.counted_size.ensures) (c.pass_event.ensures.goes r is)
