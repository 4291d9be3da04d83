use Rattle.mysql_command_rules.proofs.OneMeaning.{read_equally}
use Rattle.mysql_command_rules.proofs.laws.roads_read_equally.Goals as goal

pub returns : goal.returns
returns c = read_equally c.tokens_of_a_text.ensures.one
