use Rattle.std.proofs.Common.{◌⊎◌, [], sym, subst, take_all}
use Rattle.std.specs.Prelude.{map}
use Rattle.std.specs.List.{flat_map}
use Rattle.mysql_replies.specs.Reply.{context_by}
use Rattle.mysql_reply_events.specs.declared.context.Context.{Context}
use Rattle.mysql_replies.specs.Bytes.{IsReplyOf, IsShortReplyOf}
use Rattle.mysql_replies.specs.Holding.{ReaderState, fault_of}
use Rattle.mysql_replies.specs.Views.{answer_view}
use Rattle.mysql_replies.proofs.Fed.{IsFed, fed_nothing, fed_next, fed_answer, pieces_more}
use Rattle.mysql_replies.proofs.reader.read_reply.Goals as goal

pub loop-piece-init : goal.loop-piece-init
loop-piece-init c =
    let context : Context = context_by c.args.kind c.args.capabilities in
    subst (λ (reader : ReaderState). IsFed (fault_of reader.so_far) context c.args.first_id
    c.args.limit [] reader) (sym c.new-reader.ensures)
    (fed_nothing context c.args.first_id c.args.limit)

pub loop-piece-preserved : goal.loop-piece-preserved
loop-piece-preserved c =
    let i = c.loop-piece.piece-index in
    let f = c.feed-answer.ensures in
    subst (λ pieces. IsFed (fault_of c.feed-answer.new.self.so_far)
    (context_by c.args.kind c.args.capabilities) c.args.first_id c.args.limit pieces
    c.feed-answer.new.self)
    (sym (pieces_more c.args.pieces.now i (record { ref_ptr = (0, 0); now = [] }) c.loop-piece-test.true))
    (fed_next _ c.args.first_id c.args.limit _ _ c.loop-piece.reader c.feed-answer.new.self
    c.feed-answer.result c.are_bytes.ensures.bytes
    (record {
      stays = f.stays;
      going = f.going;
      fault = f.fault;
      takes = f.takes;
      goes_on =
          f.goes_on;
      short = f.short;
    }) c.loop-piece.invariant)

pub returns : goal.returns
returns c =
    let context : Context = context_by c.args.kind c.args.capabilities in
    subst (λ pieces. IsReplyOf context c.args.first_id c.args.limit
    (flat_map (λ piece. piece.now) pieces) (answer_view c.finish.result) ⊎
    IsShortReplyOf context c.args.first_id c.args.limit (map (λ piece. piece.now) pieces)
    (answer_view c.finish.result))
    (take_all c.loop-piece.piece-index c.args.pieces.now c.loop-piece-test.false)
    (fed_answer context c.args.first_id c.args.limit _ c.loop-piece.reader
    (answer_view c.finish.result) c.loop-piece.invariant c.finish.ensures)
