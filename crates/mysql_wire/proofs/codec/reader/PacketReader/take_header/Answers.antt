use Rattle.std.proofs.Common.{[], refl}
use Rattle.mysql_wire.proofs.Incoming.{header_waits, no_refusal, waited_on, waits_view, same_view}
use Rattle.mysql_wire.proofs.codec.reader.PacketReader.take_header.Goals as goal

pub invariant_of-self-2 : goal.invariant_of-self-2
invariant_of-self-2 c =
    let took = c.if-not-append.ensures.taken in
    let none = c.if-not-awaits_header.ensures in
    let w = header_waits c.self.inside c.self.invariant c.keep_unfinished.new.packet.items
    c.args.piece.now c.append.new.self c.keep_unfinished.ensures none.0 none.1 took.0 took.1 in
    let on =
    waited_on c.self.inside c.args.self.now c.self.view_is c.self.invariant
    c.keep_unfinished.new.packet.items c.args.piece.now c.keep_unfinished.ensures
    c.if-not-awaits_header.ensures.1
    c.self.inside.codec c.append.new.self [] c.keep_unfinished.new.packet.items refl (λ some. absurd (some none.0)) w in
    rw c.is_empty.ensures (record {
      stands = λ _. on.stands;
      begun = on.begun_is;
      refused =
          no_refusal c.self.inside.codec.refused _ _ none.1;
    })

pub returns-clause-waits : goal.returns-clause-waits
returns-clause-waits c =
    let took = c.if-not-append.ensures.taken in
    let none = c.if-not-awaits_header.ensures in
    let w = header_waits c.self.inside c.self.invariant c.keep_unfinished.new.packet.items
    c.args.piece.now c.append.new.self c.keep_unfinished.ensures none.0 none.1 took.0 took.1 in
    rw c.is_empty.ensures
    (waits_view c.self.inside c.args.self.now c.self.view_is c.self.invariant
    c.keep_unfinished.new.packet.items c.args.piece.now c.keep_unfinished.ensures
    c.if-not-awaits_header.ensures.1
    c.self.inside.codec c.append.new.self [] c.keep_unfinished.new.packet.items refl (λ some. absurd (some none.0)) w)

pub returns-clause-used : goal.returns-clause-used
returns-clause-used c =
    let took = c.if-not-append.ensures.taken in
    let none = c.if-not-awaits_header.ensures in
    let w = header_waits c.self.inside c.self.invariant c.keep_unfinished.new.packet.items
    c.args.piece.now c.append.new.self c.keep_unfinished.ensures none.0 none.1 took.0 took.1 in
    rw c.is_empty.ensures
    (same_view c.self.inside c.args.self.now c.self.view_is c.self.invariant
    c.keep_unfinished.new.packet.items c.args.piece.now c.keep_unfinished.ensures
    c.if-not-awaits_header.ensures.1
    c.self.inside.codec c.append.new.self [] c.keep_unfinished.new.packet.items refl (λ some. absurd (some none.0)) w)
