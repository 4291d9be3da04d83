use Rattle.std.proofs.Common.{sym, subst, refl, ap}
use Rattle.std.proofs.lemmas.Result.{on_ok_weaker}
use Rattle.mysql_digests.specs.Digest.{Comma, Open, with_mark}
use Rattle.mysql_digests.specs.Held.{Holds}
use Rattle.mysql_digests.proofs.pieces.Pieces.add_byte.Goals as goal

pub returns-then-b-eq44 : goal.returns-then-b-eq44
returns-then-b-eq44 c = on_ok_weaker c.push_mark.result (λ k pieces h.
    subst (λ y. Holds y c.push_mark.new.self) (sym (ap (λ y. with_mark y pieces) c.if-b-eq44.true))
    (k pieces Comma h refl refl)) c.push_mark.ensures

pub returns-then-b-eq40 : goal.returns-then-b-eq40
returns-then-b-eq40 c = on_ok_weaker c.push_mark-then-b-eq40.result (λ k pieces h.
    subst (λ y. Holds y c.push_mark-then-b-eq40.new.self)
    (sym (ap (λ y. with_mark y pieces) c.if-b-eq40.true)) (k pieces Open h refl refl))
    c.push_mark-then-b-eq40.ensures
