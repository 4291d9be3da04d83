use Rattle.mysql_command_rules.proofs.RequestSizes.{requests_have_their_size}
use Rattle.mysql_command_rules.proofs.laws.requests_have_their_size.Goals as goal

pub returns : goal.returns
returns c = requests_have_their_size c.cells_have_lengths.ensures
