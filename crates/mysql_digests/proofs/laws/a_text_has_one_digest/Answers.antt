use Rattle.mysql_digests.proofs.LawProofs.{some_digest}
use Rattle.mysql_digests.proofs.laws.a_text_has_one_digest.Goals as goal

pub returns-clause-some : goal.returns-clause-some
returns-clause-some c = some_digest c.tokens_of_a_text.ensures.some
