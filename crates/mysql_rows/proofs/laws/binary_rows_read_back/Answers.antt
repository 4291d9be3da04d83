use Rattle.mysql_rows.proofs.BinaryBack.{binary_rows_read_back}
use Rattle.mysql_rows.proofs.laws.binary_rows_read_back.Goals as goal

pub returns : goal.returns
returns c = binary_rows_read_back c.typed_cells_read_back.ensures
