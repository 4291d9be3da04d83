use Rattle.mysql_witnesses.proofs.AboutQueries.{pieces_follow_literals_at_once}
use Rattle.mysql_witnesses.proofs.queries.pieces_follow_literals_at_once.Goals as goal

pub returns : goal.returns
returns c = pieces_follow_literals_at_once c.tokens_of_a_text.ensures.one
