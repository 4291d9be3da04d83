use Rattle.mysql_command_rules.proofs.InTurn.{sent_in_turn}
use Rattle.mysql_command_rules.proofs.in_turn.sent_in_turn.Goals as goal

pub returns : goal.returns
returns c = sent_in_turn c.tokens_of_a_text.ensures.one
