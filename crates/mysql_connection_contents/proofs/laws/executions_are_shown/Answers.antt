use Rattle.mysql_connection_contents.proofs.Executing.{executions_are_shown}
use Rattle.mysql_connection_contents.proofs.laws.executions_are_shown.Goals as goal

pub returns : goal.returns
returns c = executions_are_shown
