use Rattle.mysql_wire.proofs.Decides.{answer_grows as the_law}
use Rattle.mysql_wire.proofs.laws.answer_grows.Goals as goal

pub returns : goal.returns
returns c = the_law
