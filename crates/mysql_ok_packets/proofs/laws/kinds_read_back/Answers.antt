use Rattle.mysql_ok_packets.specs.BackLaws.{kind-back}
use Rattle.mysql_ok_packets.proofs.laws.kinds_read_back.Goals as goal

pub returns : goal.returns
returns g c =
    kind-back g.T.OkPacketKind.HEADER g.T.OkPacketKind.body_at g.T.OkPacketKind.body_bytes g.T.OkPacketKind.kept
    (rw c.HEADER-header.ensures at c.HEADER-header.type_inv) g.met.T.OkPacketKind.reads_back
