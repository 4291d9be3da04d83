use Rattle.mysql_connection_recoding.proofs.Recoding.{types_count_there}
use Rattle.mysql_connection_recoding.proofs.laws.types_count_there.Goals as goal

pub returns : goal.returns
returns c = types_count_there
