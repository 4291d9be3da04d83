use Rattle.mysql_receive.proofs.WrittenCells.{written_cells_are_held}
use Rattle.mysql_receive.proofs.laws.written_cells_are_held.Goals as goal

pub returns : goal.returns
returns c = written_cells_are_held c.cells_read_back.ensures.same c.cells_read_back.ensures.content
