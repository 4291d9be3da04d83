use Rattle.mysql_executions.proofs.Carried.{read_types_are_carried}
use Rattle.mysql_executions.proofs.laws.read_types_are_carried.Goals as goal

pub returns : goal.returns
returns c = read_types_are_carried
