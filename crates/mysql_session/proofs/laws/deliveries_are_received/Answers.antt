use Rattle.mysql_session.proofs.Deliveries.{received}
use Rattle.mysql_session.proofs.laws.deliveries_are_received.Goals as goal

pub returns : goal.returns
returns c = received
