use Rattle.mysql_command_rules.proofs.Contents.{sets_mean_each}
use Rattle.mysql_command_rules.proofs.laws.sets_mean_each.Goals as goal

pub returns : goal.returns
returns c = sets_mean_each
