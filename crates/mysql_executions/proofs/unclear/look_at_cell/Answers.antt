use Rattle.mysql_executions.proofs.CellsInTurn.{found_none}
use Rattle.mysql_executions.proofs.unclear.look_at_cell.Goals as goal

pub returns-in-None : goal.returns-in-None
returns-in-None c = λ before from e. rw c.in-None.is (found_none before c.args.place from c.args.bytes.now e)
