use Rattle.mysql_receive.proofs.Cuttings.{agree}
use Rattle.mysql_receive.proofs.laws.cuttings_agree.Goals as goal

pub returns : goal.returns
returns a = agree a.reader_laws.ensures a.texts_are_decided.ensures
    a.one_reading.ensures.at_most_one a.one_reading.ensures.sliced a.tokens_of_a_text.ensures.one
    a.tokens_of_a_text.ensures.places
