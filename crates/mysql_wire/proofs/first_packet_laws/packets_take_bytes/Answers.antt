use Rattle.mysql_wire.proofs.Taking.{packets_take_bytes}
use Rattle.mysql_wire.proofs.first_packet_laws.packets_take_bytes.Goals as goal

pub returns : goal.returns
returns c = packets_take_bytes
