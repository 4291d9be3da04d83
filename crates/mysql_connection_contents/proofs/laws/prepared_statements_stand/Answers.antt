use Rattle.mysql_connection_contents.proofs.Prepared.{prepared_statements_stand}
use Rattle.mysql_connection_contents.proofs.laws.prepared_statements_stand.Goals as goal

pub returns : goal.returns
returns c = prepared_statements_stand
