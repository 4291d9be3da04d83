use Rattle.std.proofs.Common.{◌+◌, ◌∙◌, ap, sym, subst, map, take, [], arith}
use Rattle.std.specs.List.{concat}
use Rattle.std.proofs.lemmas.List.{take_all}
use Rattle.mysql_values.specs.Sql.{read_by}
use Rattle.mysql_receive.specs.Audit.{Audited, IsAbout, OutOfMemory}
use Rattle.mysql_receive.specs.Query.{Statement}
use Rattle.mysql_receive.specs.Receiving.{audit_of}
use Rattle.mysql_receive.proofs.About.{of_tokens}
use Rattle.mysql_receive.proofs.Receiving.{SoFar, so_far_nothing, pieces_more, feeds_of, received_next, audit_over}
use Rattle.mysql_receive.proofs.Receiving.{memory_over}
use Rattle.mysql_receive.proofs.whole.receive_in.Goals as goal

pub pieces-init : goal.pieces-init
pieces-init c = record {
  about = c.in_ok-receiver.ensures.fresh.about;
  limit = c.in_ok-receiver.ensures.fresh.limit_is;
  so_far = subst (λ h. SoFar c.in_ok-receiver.receiver.statement c.in_ok-receiver.receiver.limit []
      h) (sym c.in_ok-receiver.ensures.fresh.fresh) (so_far_nothing c.reader_laws.ensures _ _);
}

pub pieces-preserved : goal.pieces-preserved
pieces-preserved c =
    let mid = c.pieces.receiver in
    let new = c.feed-answer.new.self in
    let inv = c.pieces.invariant in
    record {
      about = subst (λ k. IsAbout k (read_by c.args.mode c.args.spelling c.args.query.now)
          c.args.stmt_id) (sym c.feed-answer.ensures.statement) inv.about;
      limit = c.feed-answer.ensures.limit ∙ inv.limit;
      so_far = received_next c.reader_laws.ensures mid new
          (map (λ piece. piece.now) (take c.pieces.piece-index c.args.pieces.now)) _
          (map (λ piece. piece.now) (take (c.pieces.piece-index + 1) c.args.pieces.now))
          c.feed-answer.ensures.statement c.feed-answer.ensures.limit c.are_bytes.ensures.bytes
          (pieces_more (λ piece. piece.now) c.args.pieces.now c.pieces.piece-index
          (record { ref_ptr = (0, 0); now = [] }) (omega arith))
          inv.so_far (feeds_of mid new _ c.feed-answer.result c.feed-answer.ensures.answer
          c.feed-answer.ensures.goes_on c.feed-answer.ensures.short c.feed-answer.ensures.takes
          c.feed-answer.ensures.stays);
    }

pub returns-clause-received : goal.returns-clause-received
returns-clause-received c =
    let v = c.pieces.receiver in
    let inv = c.pieces.invariant in
    let fed = map (λ piece. piece.now) (take c.pieces.piece-index c.args.pieces.now) in
    let all = ap (map (λ piece. piece.now)) (take_all c.pieces.piece-index c.args.pieces.now c.pieces-test.false) in
    record {
      audit = λ none. of_tokens
          (λ (s : Statement). Audited s c.args.limit
          (concat (map (λ piece. piece.now) c.args.pieces.now)) (audit_of c.finish.result))
          v.statement (read_by c.args.mode c.args.spelling c.args.query.now) c.args.stmt_id
          inv.about
          (audit_over c.reader_laws.ensures v c.args.limit fed
          (concat (map (λ piece. piece.now) c.args.pieces.now)) (audit_of c.finish.result)
          inv.limit (ap concat all) inv.so_far c.finish.ensures none);
      memory = λ memory. of_tokens
          (λ (s : Statement). OutOfMemory s c.args.limit
          (map (λ piece. piece.now) c.args.pieces.now) (audit_of c.finish.result)) v.statement
          (read_by c.args.mode c.args.spelling c.args.query.now) c.args.stmt_id inv.about
          (memory_over c.reader_laws.ensures v c.args.limit fed
          (map (λ piece. piece.now) c.args.pieces.now) (audit_of c.finish.result)
          inv.limit all inv.so_far c.finish.ensures memory);
    }
