use Rattle.mysql_receive.proofs.Looking.{state_after_append}
use Rattle.mysql_receive.proofs.laws.looking_back_goes_on.Goals as goal

pub returns : goal.returns
returns c = state_after_append
