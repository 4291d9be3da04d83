use Rattle.mysql_receive.proofs.Fronts.{fronts}
use Rattle.mysql_receive.proofs.laws.fronts_read_on.Goals as goal

pub returns : goal.returns
returns c = fronts c.fronts_split.ensures c.texts_are_decided.ensures
    c.one_reading.ensures.at_most_one c.one_reading.ensures.sliced c.tokens_of_a_text.ensures.places
