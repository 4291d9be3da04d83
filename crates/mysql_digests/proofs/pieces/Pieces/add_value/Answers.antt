use Rattle.std.proofs.Common.{sym, subst, refl, true, false}
use Rattle.std.proofs.lemmas.Result.{on_ok_weaker}
use Rattle.mysql_digests.specs.Digest.{Values, with_value}
use Rattle.mysql_digests.specs.Held.{Holds}
use Rattle.mysql_digests.proofs.HeldPieces.{Folds, value_folds, value_plain}
use Rattle.mysql_digests.proofs.pieces.Pieces.add_value.Goals as goal

pub returns-in-Some : goal.returns-in-Some
returns-in-Some c = on_ok_weaker c.fold.result (λ k pieces h.
    let f : Folds pieces (with_value pieces) (Values true) =
    value_folds pieces c.in-Some._many (sym (c.in-Some.ensures pieces h)) in
    subst (λ y. Holds y c.fold.new.self) (sym f.folds)
    (k f.rest f.first f.second (Values true) (subst (λ y. Holds y c.args.self.now) f.stands h)
    f.first_text f.second_text refl refl)) c.fold.ensures

pub returns-in-None : goal.returns-in-None
returns-in-None c = on_ok_weaker c.push_mark.result (λ k pieces h.
    subst (λ y. Holds y c.push_mark.new.self)
    (sym (value_plain pieces (sym (c.in-None.ensures pieces h))))
    (k pieces (Values false) h refl refl)) c.push_mark.ensures
