use Rattle.mysql_wire.proofs.Fronts.{one_count_stands_whole as the_law}
use Rattle.mysql_wire.proofs.laws.one_count_stands_whole.Goals as goal

pub returns : goal.returns
returns c = the_law
