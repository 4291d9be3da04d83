use Rattle.std.proofs.Common.{sym, subst, refl}
use Rattle.std.proofs.lemmas.Result.{on_ok_weaker}
use Rattle.mysql_digests.specs.Digest.{Close}
use Rattle.mysql_digests.specs.Held.{Holds}
use Rattle.mysql_digests.proofs.HeldPieces.{close_plain}
use Rattle.mysql_digests.proofs.pieces.Pieces.add_close.Goals as goal

pub returns-in-None : goal.returns-in-None
returns-in-None c = on_ok_weaker c.push_mark.result (λ k pieces h.
    subst (λ y. Holds y c.push_mark.new.self)
    (sym (close_plain pieces (sym (c.in-None.ensures pieces h)))) (k pieces Close h refl refl))
    c.push_mark.ensures
