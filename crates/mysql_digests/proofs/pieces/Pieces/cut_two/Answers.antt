use Rattle.std.proofs.Common.{◌∷◌}
use Rattle.mysql_digests.proofs.pieces.Pieces.cut_two.Goals as goal

pub returns : goal.returns
returns c pieces first second h f s = c.cut-2.ensures pieces second (c.cut.ensures (second ∷ pieces) first h f) s
