use Rattle.mysql_recoding.proofs.OneRecoding.{decided}
use Rattle.mysql_recoding.proofs.laws.recodings_are_decided.Goals as goal

pub returns : goal.returns
returns c = decided c.stream_has_one_audit.ensures c.tokens_of_a_text.ensures.one
