use Rattle.mysql_session.proofs.Deliveries.{recoded}
use Rattle.mysql_session.proofs.laws.recodings_are_delivered.Goals as goal

pub returns : goal.returns
returns c = recoded c.recodings_are_sent.ensures c.readable_sets_are_delivered.ensures
