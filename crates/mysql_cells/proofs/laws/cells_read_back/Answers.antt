use Rattle.mysql_cells.proofs.WrittenCells.{cells_read_back, means_the_same}
use Rattle.mysql_cells.proofs.laws.cells_read_back.Goals as goal

pub returns : goal.returns
returns c = record { same = cells_read_back; content = means_the_same }
