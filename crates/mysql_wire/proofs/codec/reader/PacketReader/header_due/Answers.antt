use Rattle.std.proofs.Common.{◌≡◌, ◌%◌, ◌+◌, ◌∙◌, length, ap, sym, arith}
use Rattle.std.specs.Prelude.{option_map}
use Rattle.mysql_wire.proofs.Due.{reader_begun, reader_between}
use Rattle.mysql_wire.proofs.codec.reader.PacketReader.header_due.Goals as goal

pub returns-then-is_some : goal.returns-then-is_some
returns-then-is_some c =
    let filled : c.len.result ≡ length c.self.inside.packet.items =
    omega (arith, c.len.ensures, c.self.inside.packet.ok.0) in
    reader_begun c.self.inside c.args.self.now c.args.piece.now c.begun_header-begun.result
    c.self.view_is c.self.invariant c.if-not-self.false (sym c.is_some.ensures ∙
    c.if-is_some.true)
    (c.begun_header-begun.ensures.value ∙
    ap (λ n. option_map (λ chunk. record {
      number = chunk.number;
      len =
          n % 16777215 + chunk.awaited;
    }) c.self.inside.codec.begun) filled)
    c.begun_header-begun.ensures.byte

pub returns : goal.returns
returns c =
    let filled : c.len.result ≡ length c.self.inside.packet.items =
    omega (arith, c.len.ensures, c.self.inside.packet.ok.0) in
    c.with_piece-2.ensures.value
    ∙ reader_between c.self.inside c.args.self.now c.args.piece.now c.begun_header-begun.result
    c.self.view_is c.if-not-self.false c.with_piece-2.ensures.short (sym c.is_some.ensures ∙
    c.if-is_some.false)
    (c.begun_header-begun.ensures.value ∙
    ap (λ n. option_map (λ chunk. record {
      number = chunk.number;
      len =
          n % 16777215 + chunk.awaited;
    }) c.self.inside.codec.begun) filled)
