use Rattle.mysql_command_rules.proofs.Statements.{one_statement}
use Rattle.mysql_command_rules.proofs.laws.statements_are_one.Goals as goal

pub returns : goal.returns
returns c = one_statement c.tokens_of_a_text.ensures.one
