use Rattle.mysql_execution_writer.proofs.ReadExecutions.{read_can_be_put}
use Rattle.mysql_execution_writer.proofs.laws.read_executions_are_written.Goals as goal

pub returns : goal.returns
returns c = λ capabilities s body e are read. read_can_be_put c.read_cells_are_written.ensures
    capabilities s body e are read
