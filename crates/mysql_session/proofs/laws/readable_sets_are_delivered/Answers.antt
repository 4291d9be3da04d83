use Rattle.mysql_session.proofs.Deliveries.{delivered}
use Rattle.mysql_session.proofs.laws.readable_sets_are_delivered.Goals as goal

pub returns : goal.returns
returns c = delivered c.sent_sets_are_delivered.ensures c.sent_payloads_fit.ensures
    c.cuttings_agree.ensures c.tokens_of_a_text.ensures.one
