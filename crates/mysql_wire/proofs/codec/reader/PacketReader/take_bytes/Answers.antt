use Rattle.std.proofs.Common.{refl, []}
use Rattle.mysql_wire.proofs.Incoming.{begun_open, no_refusal, within_view}
use Rattle.mysql_wire.proofs.codec.reader.PacketReader.take_bytes.Goals as goal

pub invariant_of-self-else-not-decode_within : goal.invariant_of-self-else-not-decode_within
invariant_of-self-else-not-decode_within c =
    let took = c.if-not-decode_within.ensures.waits in
    let fine = begun_open c.self.inside c.self.invariant c.if-not-self.false in
    let on =
    within_view c.self.inside c.args.self.now c.self.view_is c.self.invariant c.args.piece.now
    c.decode_within.new.self [] c.decode_within.new.packet.items c.if-not-self.false refl fine
    took.0 took.1 in
    record {
      stands = λ _. on.stands;
      begun = on.begun_is;
      refused =
          no_refusal c.decode_within.new.self.refused _ _ on.fine;
    }

pub returns-clause-waits : goal.returns-clause-waits
returns-clause-waits c =
    let took = c.if-not-decode_within.ensures.waits in
    let fine = begun_open c.self.inside c.self.invariant c.if-not-self.false in
    (within_view c.self.inside c.args.self.now c.self.view_is c.self.invariant c.args.piece.now
    c.decode_within.new.self [] c.decode_within.new.packet.items c.if-not-self.false refl fine
    took.0 took.1).waits

pub returns-clause-used : goal.returns-clause-used
returns-clause-used c =
    let took = c.if-not-decode_within.ensures.waits in
    let fine = begun_open c.self.inside c.self.invariant c.if-not-self.false in
    (within_view c.self.inside c.args.self.now c.self.view_is c.self.invariant c.args.piece.now
    c.decode_within.new.self [] c.decode_within.new.packet.items c.if-not-self.false refl fine
    took.0 took.1).view
