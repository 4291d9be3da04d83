use Rattle.mysql_execution_writer.proofs.ReadBulks.{read_bulks_are_written}
use Rattle.mysql_execution_writer.proofs.laws.read_bulks_are_written.Goals as goal

pub returns : goal.returns
returns c = read_bulks_are_written c.read_cells_are_written.ensures
