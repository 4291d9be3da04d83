use Rattle.mysql_command_rules.proofs.InTurn.{made_in_turn}
use Rattle.mysql_command_rules.proofs.in_turn.made_in_turn.Goals as goal

pub returns : goal.returns
returns c = made_in_turn
