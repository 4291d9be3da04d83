use Rattle.mysql_command_rules.proofs.ExecutionStreams.{executions_are_read}
use Rattle.mysql_command_rules.proofs.laws.executions_read.Goals as goal

pub returns : goal.returns
returns c = executions_are_read c.written_cells_are_held.ensures
