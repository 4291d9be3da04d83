use Rattle.mysql_replies.proofs.Fed.{any_bytes, cuttings}
use Rattle.mysql_replies.proofs.laws.bytes_have_one_answer.Goals as goal

pub returns-clause-some : goal.returns-clause-some
returns-clause-some c = any_bytes c.one_split.ensures

pub returns-clause-cuttings : goal.returns-clause-cuttings
returns-clause-cuttings c = cuttings c.one_split.ensures
