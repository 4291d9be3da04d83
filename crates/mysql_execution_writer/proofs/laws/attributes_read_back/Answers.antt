use Rattle.mysql_execution_writer.proofs.AttributesBack.{read_back}
use Rattle.mysql_execution_writer.proofs.laws.attributes_read_back.Goals as goal

pub returns : goal.returns
returns c = read_back c.bitmaps_say_which_are_null.ensures c.typed_cells_read_back.ensures
