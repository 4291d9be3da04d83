use Rattle.mysql_command_rules.proofs.WrittenInTurn.{written_in_turn}
use Rattle.mysql_command_rules.proofs.in_turn.written_in_turn.Goals as goal

pub returns : goal.returns
returns c = written_in_turn c.tokens_of_a_text.ensures.one
