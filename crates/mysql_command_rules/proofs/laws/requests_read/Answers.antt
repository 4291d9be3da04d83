use Rattle.mysql_command_rules.proofs.RequestStreams.{requests_read}
use Rattle.mysql_command_rules.proofs.laws.requests_read.Goals as goal

pub returns : goal.returns
returns c = requests_read c.written_cells_are_held.ensures c.cells_have_lengths.ensures c.types_in_force_serve.ensures
