use Rattle.std.proofs.Common.{◌≡◌, ◌-◌, ◌≤◌, ◌++◌, take, drop}
use Rattle.mysql_wire.proofs.codec.packet.move_bytes.Given as goal

-- so many bytes were moved
abbrev pub invariant-parts : goal.invariant-parts
invariant-parts g l =
    let unread = g.B.Buf.unread in
    let written = g.D.BufMut.written in
    (l.moved ≤ l.count)
    × (written l.dst ≡ written l.fn.dst ++ take l.moved (unread l.fn.src))
    × (unread l.src ≡ drop l.moved (unread l.fn.src))

abbrev pub decreases-parts : goal.decreases-parts
decreases-parts g l = l.count - l.moved
