use Rattle.mysql_recoding.proofs.SentAgain.{carry_the_same}
use Rattle.mysql_recoding.proofs.laws.recodings_carry_the_same.Goals as goal

pub returns : goal.returns
returns c = carry_the_same c.carried_sets_fill_places.ensures c.sent_values_are_carried.ensures
    c.executions_have_sizes.ensures
