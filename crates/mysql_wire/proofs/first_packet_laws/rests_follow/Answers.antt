use Rattle.mysql_wire.proofs.Follow.{rests_follow}
use Rattle.mysql_wire.proofs.first_packet_laws.rests_follow.Goals as goal

pub returns : goal.returns
returns c = rests_follow
