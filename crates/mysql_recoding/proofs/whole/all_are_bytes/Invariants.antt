use Rattle.std.specs.List.{flat_map}
use Rattle.std.proofs.Common.{take}
use Rattle.mysql_wire.specs.Bytes.{AreBytes}
use Rattle.mysql_recoding.proofs.whole.all_are_bytes.Given as goal

abbrev pub invariant-pieces : goal.invariant-pieces
invariant-pieces l = AreBytes (flat_map (λ piece. piece.now) (take l.piece-index l.pieces))
