use Rattle.std.proofs.Common.{rules, ◌≡◌, ◌≢◌, [], refl, arith}
use Rattle.std.specs.Prelude.{None}
use Rattle.mysql_wire.specs.Codec.{error_of, packet_number}
use Rattle.mysql_wire.proofs.Incoming.{stands_between, no_refusal, not_refused, hands_view, refuses_view, waited_on}
use Rattle.mysql_wire.proofs.Incoming.{waits_view, same_view}
use Rattle.mysql_wire.proofs.codec.reader.PacketReader.read_on.Goals as goal

pub invariant_of-self : goal.invariant_of-self
invariant_of-self c =
    let h = rw c.in-Ok-true.field-0-test at c.in-Ok-true.ensures.ok in
    let header : c.decode_piece.new.header ≡ [] = search rules in
    let number : packet_number c.decode_piece.new.codec [] ≡ c.seq_id-self-inside.result =
    omega (arith, c.seq_id-self-inside.ensures) in
    record {
      stands = λ none. stands_between c.decode_piece.new.codec c.decode_piece.new.header
          c.seq_id-self-inside.result h.between.0 header number;
      begun = refl;
      refused = no_refusal c.decode_piece.new.codec.refused _ _ h.between.1;
    }

pub returns-in-Ok-true-clause-ok : goal.returns-in-Ok-true-clause-ok
returns-in-Ok-true-clause-ok c =
    let h = rw c.in-Ok-true.field-0-test at c.in-Ok-true.ensures.ok in
    let header : c.decode_piece.new.header ≡ [] = search rules in
    let fine = not_refused c.self.inside.codec.refused _ _ _ (λ x q. q.0)
    c.decode_piece.ensures.stays c.in-Ok-true.is in
    hands_view c.self.inside c.args.self.now c.self.view_is c.self.invariant
    c.keep_unfinished.new.packet.items c.args.piece.now.now c.keep_unfinished.ensures fine
    c.decode_piece.new.codec c.decode_piece.new.header c.decode_piece.new.piece.now
    c.decode_piece.new.packet.items c.seq_id-self-inside.result header
    c.seq_id-self-inside.ensures h

pub invariant_of-self-in-Ok-false : goal.invariant_of-self-in-Ok-false
invariant_of-self-in-Ok-false c =
    let w = rw c.in-Ok-false.field-0-test at c.in-Ok-false.ensures.ok in
    let used : c.decode_piece.new.piece.now ≡ [] = search rules in
    let moved : c.decode_piece.new.codec.begun ≢ None → c.decode_piece.new.header ≡ [] =
    c.decode_piece.ensures.moved (rw c.in-Ok-false.field-0-test at c.in-Ok-false.is) in
    let fine = not_refused c.self.inside.codec.refused _ _ _ (λ x q. q.0)
    c.decode_piece.ensures.stays c.in-Ok-false.is in
    let on = waited_on c.self.inside c.args.self.now c.self.view_is c.self.invariant
    c.keep_unfinished.new.packet.items c.args.piece.now.now c.keep_unfinished.ensures fine
    c.decode_piece.new.codec c.decode_piece.new.header c.decode_piece.new.piece.now
    c.decode_piece.new.packet.items used moved w in
    rw c.is_empty-came.ensures
    (record {
      stands = λ none. on.stands;
      begun = on.begun_is;
      refused =
          no_refusal c.decode_piece.new.codec.refused _ _ w.refused;
    })

pub returns-in-Ok-false-clause-ok : goal.returns-in-Ok-false-clause-ok
returns-in-Ok-false-clause-ok c =
    let w = rw c.in-Ok-false.field-0-test at c.in-Ok-false.ensures.ok in
    let used : c.decode_piece.new.piece.now ≡ [] = search rules in
    let moved : c.decode_piece.new.codec.begun ≢ None → c.decode_piece.new.header ≡ [] =
    c.decode_piece.ensures.moved (rw c.in-Ok-false.field-0-test at c.in-Ok-false.is) in
    let fine = not_refused c.self.inside.codec.refused _ _ _ (λ x q. q.0)
    c.decode_piece.ensures.stays c.in-Ok-false.is in
    rw c.is_empty-came.ensures
    (waits_view c.self.inside c.args.self.now c.self.view_is c.self.invariant
    c.keep_unfinished.new.packet.items c.args.piece.now.now c.keep_unfinished.ensures fine
    c.decode_piece.new.codec c.decode_piece.new.header c.decode_piece.new.piece.now
    c.decode_piece.new.packet.items used moved w)

pub returns-in-Ok-false-clause-waits : goal.returns-in-Ok-false-clause-waits
returns-in-Ok-false-clause-waits c =
    let w = rw c.in-Ok-false.field-0-test at c.in-Ok-false.ensures.ok in
    let used : c.decode_piece.new.piece.now ≡ [] = search rules in
    let moved : c.decode_piece.new.codec.begun ≢ None → c.decode_piece.new.header ≡ [] =
    c.decode_piece.ensures.moved (rw c.in-Ok-false.field-0-test at c.in-Ok-false.is) in
    let fine = not_refused c.self.inside.codec.refused _ _ _ (λ x q. q.0)
    c.decode_piece.ensures.stays c.in-Ok-false.is in
    λ _. (
      used,
      rw c.is_empty-came.ensures
          (same_view c.self.inside c.args.self.now c.self.view_is c.self.invariant
          c.keep_unfinished.new.packet.items c.args.piece.now.now c.keep_unfinished.ensures fine
          c.decode_piece.new.codec c.decode_piece.new.header c.decode_piece.new.piece.now
          c.decode_piece.new.packet.items used moved w),
    )

pub returns-in-Err-clause-refused : goal.returns-in-Err-clause-refused
returns-in-Err-clause-refused c =
    rw c.error.ensures
    (refuses_view c.self.inside c.args.self.now c.self.view_is c.self.invariant
    c.keep_unfinished.new.packet.items c.args.piece.now.now c.keep_unfinished.ensures
    c.decode_piece.new.codec (error_of c.in-Err.refusal) c.in-Err.ensures.refused)
