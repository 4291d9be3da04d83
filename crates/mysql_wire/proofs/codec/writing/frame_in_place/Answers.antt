use Rattle.std.proofs.Common.{◌+◌, ◌-◌, arith, length-drop}
use Rattle.mysql_wire.proofs.Writing.{framed_in_place}
use Rattle.mysql_wire.proofs.codec.writing.frame_in_place.Goals as goal

pub returns-clause-ok : goal.returns-clause-ok
returns-clause-ok c =
    framed_in_place c.args.start (c.len.result - (c.args.start + 4)) c.args.out.now.len
    c.args.number c.args.out.now.items c.deref_mut.result.now c.packet_header.result
    c.copy_from_slice.new.self
    c.requires (omega (arith, c.args.out.now.ok.0)) c.deref_mut.ensures.value
    c.copy_from_slice.ensures.after (omega (arith, c.packet_header.type_inv)) (omega arith)
    (omega (arith, length-drop (c.args.start + 4) c.args.out.now.items)) (omega arith) c.packet_header.ensures
