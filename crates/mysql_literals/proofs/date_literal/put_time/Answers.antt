use Rattle.std.proofs.Common.{◌++◌, ◌≡◌, [], ◌∷◌, length, take, refl, ap, ◌∙◌, append_assoc}
use Rattle.std.proofs.lemmas.List.{take_at}
use Rattle.std.proofs.lemmas.Result.{err_from_is_err_and}
use Rattle.mysql_queries.specs.Tokens.{single_quote}
use Rattle.mysql_cells.specs.Values.{time_text}
use Rattle.mysql_literals.proofs.date_literal.put_time.Goals as goal

pub returns-in_err-push-2 : goal.returns-in_err-push-2
returns-in_err-push-2 c =
    let p = err_from_is_err_and c.from_residual-in_err-push-2.result c.from_residual-in_err-push-2.ensures.1 in
    let old = c.args.out.now.items in
    let text = time_text c.args.negative c.args.days c.args.hours c.args.minutes c.args.seconds c.args.micros in
    let quoted : c.push-2.new.self.items ≡ old ++ single_quote ∷ text =
    c.in_err-push-2.ensures.items ∙ c.in_ok-put_time_text.ensures ∙
    ap (λ y. y ++ text) c.in_ok-push.ensures.items ∙
    append_assoc old (single_quote ∷ []) text in
    rw p.1 (ap (take (length old)) quoted ∙ take_at old (single_quote ∷ text) (length old) refl)
