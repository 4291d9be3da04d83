use Rattle.std.proofs.Common.{true, ◌++◌, subst, sym}
use Rattle.mysql_wire.specs.Codec.{HandsOut}
use Rattle.mysql_wire.proofs.Incoming.{uses_piece, not_refused}
use Rattle.mysql_wire.proofs.codec.reader.decode_straight.Goals as goal

pub returns-then-branch-clause-whole : goal.returns-then-branch-clause-whole
returns-then-branch-clause-whole c =
    let none = not_refused c.args.codec.now.refused _ true _ (λ x q. q.0)
    c.decode_onto.ensures.stays (rw c.if-branch.true at c.in_ok-decode_onto.was) in
    let handed = rw c.if-branch.true at c.in_ok-decode_onto.ensures.ok in
    let behind = subst (λ front. HandsOut c.args.codec.now (front ++ c.args.piece.now.now)
    c.args.packet.now.items c.decode_onto.new.self c.decode_onto.new.src.now
    c.decode_onto.new.dst.items) (sym c.requires.none) handed in
    λ _. (
      c.requires.none,
      (uses_piece c.args.codec.now c.args.header.now c.args.packet.now.items c.args.piece.now.now _
          _ c.decode_onto.new.self c.decode_onto.new.src.now c.decode_onto.new.dst.items
          (c.requires.stands none) behind).0,
    )
