use Rattle.mysql_recoding.proofs.SentAgain.{are_sent}
use Rattle.mysql_recoding.proofs.laws.recodings_are_sent.Goals as goal

pub returns : goal.returns
returns c = are_sent c.carried_sets_fill_places.ensures c.executions_have_sizes.ensures
