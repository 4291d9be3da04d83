use Rattle.mysql_receive.proofs.Keeping.{kept_within}
use Rattle.mysql_receive.proofs.receiver.Receiver.kept.Goals as goal

pub returns-clause-most : goal.returns-clause-most
returns-clause-most c = kept_within c.self.inside c.args.self.now c.kept.result c.self.view_is
    c.self.invariant c.kept.ensures
