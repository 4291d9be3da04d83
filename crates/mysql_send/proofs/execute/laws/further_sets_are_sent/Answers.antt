use Rattle.mysql_send.proofs.FurtherSets.{further_sets_are_sent}
use Rattle.mysql_send.proofs.execute.laws.further_sets_are_sent.Goals as goal

pub returns : goal.returns
returns c = further_sets_are_sent
