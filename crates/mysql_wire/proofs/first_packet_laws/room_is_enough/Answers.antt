use Rattle.mysql_wire.proofs.Room.{room_is_enough}
use Rattle.mysql_wire.proofs.first_packet_laws.room_is_enough.Goals as goal

pub returns : goal.returns
returns c = room_is_enough
