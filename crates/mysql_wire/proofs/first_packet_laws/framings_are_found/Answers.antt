use Rattle.mysql_wire.proofs.Framings.{framings_are_found}
use Rattle.mysql_wire.proofs.first_packet_laws.framings_are_found.Goals as goal

pub returns : goal.returns
returns c = framings_are_found
