use Rattle.mysql_receive.proofs.Fronts.{joins}
use Rattle.mysql_receive.proofs.laws.whole_streams_join.Goals as goal

pub returns : goal.returns
returns c = joins c.reader_laws.ensures
