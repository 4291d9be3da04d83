use Rattle.mysql_command_rules.proofs.Queries.{queries_read}
use Rattle.mysql_command_rules.proofs.laws.queries_read.Goals as goal

pub returns : goal.returns
returns c = queries_read
