use Rattle.std.proofs.Common.{◌≡◌, ◌+◌, ◌-◌, ◌<◌, [], None, length, take, drop, ap, sym, ◌∙◌, subst, arith, length-drop}
use Rattle.std.proofs.lemmas.List.{take_all}
use Rattle.mysql_wire.specs.Incoming.{IsFrontChunk}
use Rattle.mysql_wire.specs.Kept.{bytes_of}
use Rattle.mysql_wire.proofs.InPlace.{hands_in_place}
use Rattle.mysql_wire.proofs.codec.reader.PacketReader.read_in_place.Goals as goal

pub returns-clause-found : goal.returns-clause-found
returns-clause-found c =
    let piece = c.args.piece.now.now in
    let old = c.args.self.now in
    let count = c.in-Some.count in
    let fine : old.refused ≡ None = sym (ap (λ v. v.refused) c.self.view_is) ∙ c.if-not-is_open.ensures.open in
    let none : old.bytes ≡ [] =
    sym (ap (λ v. v.bytes) c.self.view_is) ∙
    ap (λ b. bytes_of b c.self.inside.codec c.self.inside.header c.self.inside.packet.items)
    c.if-self.false in
    let number : c.self.inside.number ≡ old.number = ap (λ v. v.number) c.self.view_is in
    let byte : old.number < 256 =
    omega (arith, number, (c.self.invariant.stands c.if-not-is_open.ensures.open).number_is) in
    let found = c.in-Some.ensures.found in
    let whole : IsFrontChunk old.limit old.number piece count =
    subst (λ l. IsFrontChunk l old.number piece count) (c.limit.ensures ∙
    ap (λ v. v.limit) c.self.view_is)
    (subst (λ n. IsFrontChunk c.limit.result n piece count) number found.0) in
    hands_in_place old c.pass_one.new.self count piece
    (take (length piece - (4 + count)) (drop (4 + count) piece))
    (take (4 + count - 4) (drop 4 piece)) none fine byte found.1 whole c.pass_one.ensures
    (take_all (length piece - (4 + count)) (drop (4 + count) piece) (omega (arith, length-drop (4 + count) piece)))
    (ap (λ k. take k (drop 4 piece)) (omega arith))
