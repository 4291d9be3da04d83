use Rattle.mysql_stmt.proofs.Sizes.{executions_have_sizes}
use Rattle.mysql_stmt.proofs.laws.executions_have_sizes.Goals as goal

pub returns : goal.returns
returns c = executions_have_sizes c.cells_have_lengths.ensures
