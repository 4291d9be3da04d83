use Rattle.std.proofs.Common.{sym, subst, refl}
use Rattle.std.proofs.lemmas.Result.{on_ok_weaker}
use Rattle.mysql_digests.specs.Digest.{Row, Rows, with_row}
use Rattle.mysql_digests.specs.Held.{Holds}
use Rattle.mysql_digests.proofs.HeldPieces.{Folds, row_folds, row_plain, row_text, rows_text}
use Rattle.mysql_digests.proofs.pieces.Pieces.add_row.Goals as goal

pub returns-in-Some : goal.returns-in-Some
returns-in-Some c = on_ok_weaker c.fold.result (λ k pieces h.
    let f : Folds pieces (with_row c.args.of_many pieces) (Rows c.in-Some.others) =
    row_folds c.args.of_many c.in-Some.others pieces (sym (c.in-Some.ensures pieces h)) in
    subst (λ y. Holds y c.fold.new.self) (sym f.folds)
    (k f.rest f.first f.second (Rows c.in-Some.others)
    (subst (λ y. Holds y c.args.self.now) f.stands h) f.first_text f.second_text refl
    (rows_text c.in-Some.others))) c.fold.ensures

pub returns-in-None : goal.returns-in-None
returns-in-None c = on_ok_weaker c.push_mark.result (λ k pieces h.
    subst (λ y. Holds y c.push_mark.new.self) (sym (row_plain c.args.of_many pieces (sym (c.in-None.ensures pieces h))))
    (k pieces (Row c.args.of_many) h refl (row_text c.args.of_many))) c.push_mark.ensures
