use Rattle.mysql_receive.proofs.Taking.{taken_sets_are_the_audit}
use Rattle.mysql_receive.proofs.laws.taken_sets_are_the_audit.Goals as goal

pub returns : goal.returns
returns c = taken_sets_are_the_audit c.reader_laws.ensures
