use Rattle.mysql_wire.proofs.Fronts.{fronts_split as the_law}
use Rattle.mysql_wire.proofs.laws.fronts_split.Goals as goal

pub returns : goal.returns
returns c = the_law
