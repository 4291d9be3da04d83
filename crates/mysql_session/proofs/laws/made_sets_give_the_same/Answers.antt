use Rattle.mysql_session.proofs.ObjectSets.{made_sets_give_the_same}
use Rattle.mysql_session.proofs.laws.made_sets_give_the_same.Goals as goal

pub returns : goal.returns
returns c = made_sets_give_the_same
