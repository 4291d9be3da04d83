use Rattle.std.proofs.Common.{◌≡◌, length}
use Rattle.mysql_wire.proofs.OnePacket.{Reading}
use Rattle.mysql_wire.proofs.codec.packet.take_packet.Given as goal

-- what is held stays, and so does the number of the packet's first chunk
abbrev pub invariant-chunks : goal.invariant-chunks
invariant-chunks g l = record {
  reading : Reading l.limit l.fn.number l.fn.begun (g.B.Buf.unread l.fn.src)
      (g.D.BufMut.written l.fn.dst) l.number l.begun (g.B.Buf.unread l.src)
      (g.D.BufMut.written l.dst);
  filled : l.filled ≡ length (g.D.BufMut.written l.dst);
}

abbrev pub decreases-chunks : goal.decreases-chunks
decreases-chunks g l = length (g.B.Buf.unread l.src)
