use Rattle.mysql_rows.proofs.BinaryRead.{read_binary_rows_are_written}
use Rattle.mysql_rows.proofs.laws.read_binary_rows_are_written.Goals as goal

pub returns : goal.returns
returns c = read_binary_rows_are_written c.read_cells_are_written.ensures
