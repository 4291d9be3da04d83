use Rattle.std.proofs.Common.{subst}
use Rattle.mysql_reply_events.specs.Reader.{ReaderState}
use Rattle.mysql_reply_events.specs.States.{Says}
use Rattle.mysql_reply_events.specs.Table.{event_at}
use Rattle.mysql_reply_events.proofs.Peeking.{peeks}
use Rattle.mysql_reply_events.proofs.reader.EventReader.peek.Goals as goal

pub returns-clause-peeks : goal.returns-clause-peeks
returns-clause-peeks c = λ going.
    peeks c.args.self.now c.args.payload.now c.says.result
    (subst (λ (r : ReaderState). Says (event_at r.context r.so_far c.args.payload.now)
    c.says.result) c.self.view_is c.says.ensures)
