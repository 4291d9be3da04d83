use Rattle.mysql_session.proofs.Deliveries.{read_back}
use Rattle.mysql_session.proofs.laws.deliveries_are_read_back.Goals as goal

pub returns : goal.returns
returns c = read_back
