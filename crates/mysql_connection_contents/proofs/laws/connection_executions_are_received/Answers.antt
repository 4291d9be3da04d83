use Rattle.mysql_connection_contents.proofs.Connections.{connection_executions_are_received}
use Rattle.mysql_connection_contents.proofs.laws.connection_executions_are_received.Goals as goal

pub returns : goal.returns
returns c = connection_executions_are_received c.received_commands_are_read.ensures
