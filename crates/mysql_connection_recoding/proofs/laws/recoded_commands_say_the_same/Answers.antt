use Rattle.mysql_connection_recoding.proofs.Recoding.{recoded_commands_say_the_same}
use Rattle.mysql_connection_recoding.proofs.laws.recoded_commands_say_the_same.Goals as goal

pub returns : goal.returns
returns c = recoded_commands_say_the_same
