use Rattle.std.proofs.Common.{rules, ◌≡◌, ◌≤◌, ◌++◌, length, take}
use Rattle.mysql_wire.proofs.Moved.{moves_part}
use Rattle.mysql_wire.proofs.codec.packet.move_bytes.Goals as goal

pub parts-preserved : goal.parts-preserved
parts-preserved g c =
    let unread = g.B.Buf.unread in
    let written = g.D.BufMut.written in
    let part = c.chunk-part.result.now in
    let len = c.min-len.result in
    let fits : len ≤ length part = search rules in
    let put : written c.put_slice.new.self ≡ written c.parts.dst ++ take len part = search rules in
    let moved = moves_part (unread c.args.src.now) (written c.args.dst.now) (written c.parts.dst)
    (written c.put_slice.new.self) (unread c.parts.src) (unread c.advance.new.self) part
    c.parts.moved len
    c.parts.invariant.1 c.parts.invariant.2 c.chunk-part.ensures.front fits put c.advance.ensures.value in
    (search rules, moved.0, moved.1)
