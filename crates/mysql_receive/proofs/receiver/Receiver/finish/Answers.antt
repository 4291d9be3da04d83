use Rattle.mysql_receive.proofs.Receiving.{finished}
use Rattle.mysql_receive.proofs.receiver.Receiver.finish.Goals as goal

pub returns : goal.returns
returns c = finished c.reader_laws.ensures c.self.inside c.args.self c.is_begun.result
    c.end_now-end.result c.self.view_is c.self.invariant c.is_begun.ensures c.end_now-end.ensures
