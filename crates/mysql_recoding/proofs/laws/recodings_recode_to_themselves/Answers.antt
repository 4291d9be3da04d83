use Rattle.mysql_recoding.proofs.SentAgain.{recode_to_themselves}
use Rattle.mysql_recoding.proofs.laws.recodings_recode_to_themselves.Goals as goal

pub returns : goal.returns
returns c = recode_to_themselves c.recodings_carry_the_same.ensures
