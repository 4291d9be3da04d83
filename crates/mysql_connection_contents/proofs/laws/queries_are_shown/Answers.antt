use Rattle.mysql_connection_contents.proofs.Executing.{queries_are_shown}
use Rattle.mysql_connection_contents.proofs.laws.queries_are_shown.Goals as goal

pub returns : goal.returns
returns c = queries_are_shown
