use Rattle.mysql_connection_recoding.proofs.Commands.{received_executions_are_read}
use Rattle.mysql_connection_recoding.proofs.content_laws.received_executions_are_read.Goals as goal

pub returns : goal.returns
returns c = received_executions_are_read c.names_are_read_back.ensures.column_types
