use Rattle.std.proofs.Common.{true}
use Rattle.mysql_wire.proofs.Incoming.{cut_piece, not_refused}
use Rattle.mysql_wire.proofs.codec.reader.decode_behind.Goals as goal

pub overflow_sub-piece : goal.overflow_sub-piece
overflow_sub-piece c =
    let none = not_refused c.args.codec.now.refused _ true _ (λ x q. q.0)
    c.decode_onto.ensures.stays (rw c.if-branch.true at c.in_ok-decode_onto.was) in
    (cut_piece c.args.codec.now c.args.header.now c.args.packet.now.items c.args.piece.now.now _ _ _
    c.decode_onto.new.self _ c.decode_onto.new.dst.items c.remaining.result
    c.followed_by-src.ensures (c.requires none)
    (rw c.if-branch.true at c.in_ok-decode_onto.ensures.ok) c.remaining.ensures).0

pub returns-then-branch-clause-ok : goal.returns-then-branch-clause-ok
returns-then-branch-clause-ok c =
    let none = not_refused c.args.codec.now.refused _ true _ (λ x q. q.0)
    c.decode_onto.ensures.stays (rw c.if-branch.true at c.in_ok-decode_onto.was) in
    rw c.new.ensures
    (cut_piece c.args.codec.now c.args.header.now c.args.packet.now.items c.args.piece.now.now _ _ _
    c.decode_onto.new.self _ c.decode_onto.new.dst.items c.remaining.result
    c.followed_by-src.ensures (c.requires none)
    (rw c.if-branch.true at c.in_ok-decode_onto.ensures.ok) c.remaining.ensures).1

pub returns-then-branch-clause-whole : goal.returns-then-branch-clause-whole
returns-then-branch-clause-whole c =
    let none = not_refused c.args.codec.now.refused _ true _ (λ x q. q.0)
    c.decode_onto.ensures.stays (rw c.if-branch.true at c.in_ok-decode_onto.was) in
    λ _. (
      c.new.ensures,
      (cut_piece c.args.codec.now c.args.header.now c.args.packet.now.items c.args.piece.now.now _ _
          _ c.decode_onto.new.self _ c.decode_onto.new.dst.items c.remaining.result
          c.followed_by-src.ensures (c.requires none)
          (rw c.if-branch.true at c.in_ok-decode_onto.ensures.ok) c.remaining.ensures).2,
    )
