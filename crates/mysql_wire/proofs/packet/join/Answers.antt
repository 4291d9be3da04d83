use Rattle.std.proofs.Common.{arith, refl}
use Rattle.std.proofs.lemmas.List.{take_rest}
use Rattle.mysql_wire.proofs.Joins.{joins_chunk}
use Rattle.mysql_wire.proofs.packet.join.Goals as goal

pub chunks-preserved : goal.chunks-preserved
chunks-preserved c =
    joins_chunk c.args.bytes.now c.chunks.counter c.chunks.payload.items c.chunks.rest.now _
    c.extend_from_slice.new.self.items _
    c.chunks.invariant (omega arith) c.in_ok-extend_from_slice.ensures.items refl (take_rest c.chunks.rest.now 16777219)
