use Rattle.mysql_queries.proofs.Readings.{some_tokens, one_tokens, one_places}
use Rattle.mysql_queries.proofs.laws.tokens_of_a_text.Goals as goal

pub returns-clause-some : goal.returns-clause-some
returns-clause-some c = some_tokens

pub returns-clause-one : goal.returns-clause-one
returns-clause-one c = one_tokens

pub returns-clause-places : goal.returns-clause-places
returns-clause-places c = one_places
