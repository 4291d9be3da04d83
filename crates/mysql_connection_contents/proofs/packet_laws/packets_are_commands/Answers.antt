use Rattle.mysql_connection_contents.proofs.Commanding.{packets_are_commands}
use Rattle.mysql_connection_contents.proofs.packet_laws.packets_are_commands.Goals as goal

pub returns : goal.returns
returns c = packets_are_commands
