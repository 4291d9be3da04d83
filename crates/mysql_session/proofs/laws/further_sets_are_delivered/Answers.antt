use Rattle.mysql_session.proofs.Deliveries.{further}
use Rattle.mysql_session.proofs.laws.further_sets_are_delivered.Goals as goal

pub returns : goal.returns
returns c = further c.further_sets_are_sent.ensures c.readable_sets_are_delivered.ensures c.tokens_of_a_text.ensures.one
