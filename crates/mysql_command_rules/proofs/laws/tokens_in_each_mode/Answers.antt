use Rattle.mysql_command_rules.proofs.TokensInModes.{tokens_in_each_mode as same_tokens}
use Rattle.mysql_command_rules.proofs.laws.tokens_in_each_mode.Goals as goal

pub returns : goal.returns
returns c = same_tokens
