use Rattle.mysql_wire.proofs.Decides.{one_answer as the_law}
use Rattle.mysql_wire.proofs.laws.one_answer.Goals as goal

pub returns : goal.returns
returns c = the_law
