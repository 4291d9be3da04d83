use Rattle.std.proofs.Common.{sym, ap, ◌∙◌}
use Rattle.mysql_queries.specs.Alone.{is_closing_kind}
use Rattle.mysql_queries.proofs.TokenWalks.{kind_to_end, run_is}
use Rattle.mysql_queries.proofs.alone.run_first.Goals as goal

pub returns-then-not-is_empty : goal.returns-then-not-is_empty
returns-then-not-is_empty c = λ tokens h.
    let text = c.args.text.now in
    let n = c.run_end.result in
    run_is c.args.mode text n tokens c.is_closing.result h (sym c.if-digit_first.ensures)
    (c.run_end.ensures.run tokens h)
    (c.is_closing.ensures ∙ ap is_closing_kind (kind_to_end _ text n c.kind_at.ensures))
