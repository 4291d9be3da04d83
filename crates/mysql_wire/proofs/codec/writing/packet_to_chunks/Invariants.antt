use Rattle.std.proofs.Common.{length}
use Rattle.mysql_wire.proofs.Writing.{Writing}
use Rattle.mysql_wire.proofs.codec.writing.packet_to_chunks.Given as goal

abbrev pub invariant-slices : goal.invariant-slices
invariant-slices g l = Writing (g.B.BufMut.written l.fn.dst) l.payload l.id
    (g.B.BufMut.written l.dst) (g.B.BufMut.spare l.dst) l.number l.rest

abbrev pub decreases-slices : goal.decreases-slices
decreases-slices g l = length l.rest
