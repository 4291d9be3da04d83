use Rattle.mysql_command_rules.proofs.Carried.{carried}
use Rattle.mysql_command_rules.proofs.laws.sent_values_are_carried.Goals as goal

pub returns : goal.returns
returns c = carried c.queries_read.ensures c.executions_read.ensures c.requests_read.ensures
