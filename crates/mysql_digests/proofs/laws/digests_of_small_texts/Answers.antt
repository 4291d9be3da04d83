use Rattle.mysql_digests.proofs.Worked.{worked_digests}
use Rattle.mysql_digests.proofs.laws.digests_of_small_texts.Goals as goal

pub returns : goal.returns
returns c = worked_digests
