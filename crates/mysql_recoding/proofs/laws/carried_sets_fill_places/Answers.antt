use Rattle.mysql_recoding.proofs.Carried.{carried_sets_fill}
use Rattle.mysql_recoding.proofs.laws.carried_sets_fill_places.Goals as goal

pub returns : goal.returns
returns c = carried_sets_fill c.tokens_of_a_text.ensures.one
