use Rattle.mysql_digests.proofs.LawProofs.{querys_digest, texts_digest}
use Rattle.mysql_digests.proofs.laws.texts_over_one_query_have_one_digest.Goals as goal

pub returns-clause-query : goal.returns-clause-query
returns-clause-query c = querys_digest c.tokens_of_a_text.ensures.one c.one_reading.ensures.sliced

pub returns-clause-texts : goal.returns-clause-texts
returns-clause-texts c = texts_digest c.tokens_of_a_text.ensures.one c.one_reading.ensures.sliced
