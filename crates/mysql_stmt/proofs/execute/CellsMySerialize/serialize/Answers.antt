use Rattle.mysql_stmt.specs.Executions.{sent_cell}
use Rattle.mysql_stmt.proofs.Lists.{appends_over}
use Rattle.mysql_stmt.proofs.execute.CellsMySerialize.serialize.Goals as goal

pub returns : goal.returns
returns c = appends_over (λ value. value.now) _ _ _ (sent_cell c.args.self.now.apart) _ c.put_cells.ensures
