use Rattle.std.proofs.Common.{List, [], ℕ, ap, arith, subst}
use Rattle.std.specs.List.{flat_map}
use Rattle.std.proofs.lemmas.List.{take_all}
use Rattle.mysql_wire.specs.Bytes.{AreBytes}
use Rattle.mysql_recoding.proofs.Recodings.{one_more_piece}
use Rattle.mysql_recoding.proofs.whole.all_are_bytes.Goals as goal

pub pieces-preserved : goal.pieces-preserved
pieces-preserved c = one_more_piece (λ piece. piece.now) c.args.pieces.now c.pieces.piece-index
    (record { ref_ptr = (0, 0); now = [] }) (omega arith) c.pieces.invariant
    c.are_bytes.ensures.bytes

pub returns : goal.returns
returns c = subst (λ (l : List ℕ). AreBytes l)
    (ap (flat_map (λ piece. piece.now))
    (take_all c.pieces.piece-index c.args.pieces.now c.pieces-test.false)) c.pieces.invariant
