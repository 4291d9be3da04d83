use Rattle.mysql_cells.proofs.TypedRead.{read_cells_are_written}
use Rattle.mysql_cells.proofs.laws.read_cells_are_written.Goals as goal

pub returns : goal.returns
returns c = read_cells_are_written
