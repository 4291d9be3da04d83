use Rattle.mysql_witnesses.proofs.AboutQueries.{identifiers_have_no_escapes}
use Rattle.mysql_witnesses.proofs.queries.identifiers_have_no_escapes.Goals as goal

pub returns : goal.returns
returns c = identifiers_have_no_escapes c.tokens_of_a_text.ensures.places
