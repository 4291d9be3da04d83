use Rattle.std.proofs.Common.{take}
use Rattle.std.specs.Prelude.{map}
use Rattle.mysql_replies.specs.Holding.{fault_of}
use Rattle.mysql_replies.specs.Reply.{context_by}
use Rattle.mysql_replies.proofs.Fed.{IsFed}
use Rattle.mysql_replies.proofs.reader.read_reply.Given as goal

abbrev pub invariant-loop-piece : goal.invariant-loop-piece
invariant-loop-piece l = IsFed (fault_of l.reader.so_far) (context_by l.fn.kind l.fn.capabilities)
    l.fn.first_id l.fn.limit (map (λ piece. piece.now) (take l.piece-index l.pieces)) l.reader
