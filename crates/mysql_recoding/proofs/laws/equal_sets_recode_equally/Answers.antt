use Rattle.mysql_recoding.proofs.OneRecoding.{recode_equally}
use Rattle.mysql_recoding.proofs.laws.equal_sets_recode_equally.Goals as goal

pub returns : goal.returns
returns c = recode_equally c.recodings_carry_the_same.ensures c.stream_has_one_audit.ensures
    c.tokens_of_a_text.ensures.one
