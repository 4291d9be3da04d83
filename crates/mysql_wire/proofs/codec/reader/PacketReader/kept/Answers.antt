use Rattle.std.proofs.Common.{◌≡◌, ◌+◌, ◌<◌, length, ap, ◌∙◌, arith}
use Rattle.mysql_wire.proofs.Incoming.{kept_view}
use Rattle.mysql_wire.proofs.codec.reader.PacketReader.kept.Goals as goal

pub returns-then-self : goal.returns-then-self
returns-then-self c =
    let header : c.as_slice.result.now ≡ c.self.inside.header = c.as_slice.ensures.value in
    let few : length c.self.inside.header < 4 = c.as_slice.ensures.short in
    let sum : length c.as_slice.result.now + c.len.result ≡
    length c.self.inside.header + length c.self.inside.packet.items =
    omega (arith, ap length header, c.len.ensures, c.self.inside.packet.ok.0) in
    sum ∙ kept_view c.self.inside c.args.self.now c.self.view_is c.self.invariant c.if-self.true few
