use Rattle.mysql_queries.proofs.TextDecided.{text_is_decided}
use Rattle.mysql_queries.proofs.laws.texts_are_decided.Goals as goal

pub returns : goal.returns
returns c = text_is_decided
