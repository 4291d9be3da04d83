use Rattle.mysql_wire.proofs.Decides.{memory_keeps_first as the_law}
use Rattle.mysql_wire.proofs.laws.memory_keeps_first.Goals as goal

pub returns : goal.returns
returns c = the_law
