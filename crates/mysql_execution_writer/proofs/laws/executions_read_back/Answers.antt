use Rattle.mysql_execution_writer.proofs.ExecutionsBack.{executions_read_back}
use Rattle.mysql_execution_writer.proofs.laws.executions_read_back.Goals as goal

pub returns : goal.returns
returns c = executions_read_back c.bitmaps_say_which_are_null.ensures c.typed_cells_read_back.ensures
