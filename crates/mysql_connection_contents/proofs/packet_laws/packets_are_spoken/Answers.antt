use Rattle.mysql_connection_contents.proofs.Speaking.{packets_are_spoken}
use Rattle.mysql_connection_contents.proofs.packet_laws.packets_are_spoken.Goals as goal

pub returns : goal.returns
returns c = packets_are_spoken
