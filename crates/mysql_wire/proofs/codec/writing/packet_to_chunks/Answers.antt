use Rattle.std.proofs.Common.{arith, length-take}
use Rattle.std.proofs.lemmas.List.{take_rest}
use Rattle.mysql_wire.proofs.Writing.{writes_slice, writes_last}
use Rattle.mysql_wire.proofs.codec.writing.packet_to_chunks.Goals as goal

pub put_chunk-requires-clause-fits : goal.put_chunk-requires-clause-fits
put_chunk-requires-clause-fits g c = omega (arith, length-take 16777215 c.slices.rest.now)

pub put_chunk-requires-clause-room : goal.put_chunk-requires-clause-room
put_chunk-requires-clause-room g c = omega (arith, length-take 16777215 c.slices.rest.now, c.slices.invariant.room)

pub slices-preserved : goal.slices-preserved
slices-preserved g c =
    writes_slice (g.B.BufMut.written c.args.dst.now) c.args.payload.now c.args.id
    (g.B.BufMut.written c.slices.dst) (g.B.BufMut.spare c.slices.dst) c.slices.number
    c.slices.rest.now c.slices.invariant
    (g.B.BufMut.written c.put_chunk.new.dst) (g.B.BufMut.spare c.put_chunk.new.dst) _ (omega arith)
    c.put_chunk.ensures.items c.put_chunk.ensures.spare (take_rest c.slices.rest.now 16777215)

pub returns-clause-ok : goal.returns-clause-ok
returns-clause-ok g c =
    writes_last (g.B.BufMut.written c.args.dst.now) c.args.payload.now c.args.id
    (g.B.BufMut.written c.slices.dst) (g.B.BufMut.spare c.slices.dst) c.slices.number
    c.slices.rest.now c.slices.invariant
    (g.B.BufMut.written c.put_chunk-2.new.dst) (omega arith) c.put_chunk-2.ensures.items
