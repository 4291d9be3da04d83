use Rattle.mysql_executions.proofs.Carried.{read_bulk_types_are_carried}
use Rattle.mysql_executions.proofs.laws.read_bulk_types_are_carried.Goals as goal

pub returns : goal.returns
returns c = read_bulk_types_are_carried
