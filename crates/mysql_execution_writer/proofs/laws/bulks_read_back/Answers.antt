use Rattle.mysql_execution_writer.proofs.BulksBack.{bulks_read_back}
use Rattle.mysql_execution_writer.proofs.laws.bulks_read_back.Goals as goal

pub returns : goal.returns
returns c = bulks_read_back c.typed_cells_read_back.ensures
