use Rattle.mysql_wire.proofs.Staying.{packets_stay}
use Rattle.mysql_wire.proofs.first_packet_laws.packets_stay.Goals as goal

pub returns : goal.returns
returns c = packets_stay
