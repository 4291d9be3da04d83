use Rattle.mysql_recoding.proofs.JoinedRecodings.{joined}
use Rattle.mysql_recoding.proofs.laws.joined_streams_recode.Goals as goal

pub returns : goal.returns
returns c = joined c.whole_streams_join.ensures c.tokens_of_a_text.ensures.one c.framed_come_first.ensures
