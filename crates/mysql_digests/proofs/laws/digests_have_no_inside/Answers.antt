use Rattle.mysql_digests.proofs.LawProofs.{insides_not_told, rest_not_told}
use Rattle.mysql_digests.proofs.laws.digests_have_no_inside.Goals as goal

pub returns-clause-insides : goal.returns-clause-insides
returns-clause-insides c = insides_not_told c.tokens_of_a_text.ensures.one

pub returns-clause-rest : goal.returns-clause-rest
returns-clause-rest c = rest_not_told c.tokens_of_a_text.ensures.one
