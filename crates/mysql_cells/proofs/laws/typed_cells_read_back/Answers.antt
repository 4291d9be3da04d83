use Rattle.mysql_cells.proofs.TypedBack.{typed_cells_read_back}
use Rattle.mysql_cells.proofs.laws.typed_cells_read_back.Goals as goal

pub returns : goal.returns
returns c = typed_cells_read_back
