use Rattle.std.proofs.Common.{◌≡◌, sym, ap, ◌∙◌, drop, subst, not, ◌&&◌, ◌||◌}
use Rattle.mysql_queries.specs.Alone.{is_opening_kind, is_read_otherwise, is_run}
use Rattle.mysql_queries.specs.Tokens.{HasTokens}
use Rattle.mysql_queries.specs.TokenKinds.{kind_view}
use Rattle.mysql_queries.proofs.TokenWalks.{agree_is, to_end}
use Rattle.mysql_queries.proofs.alone.agrees.Goals as goal

pub returns-then-not-is_opening : goal.returns-then-not-is_opening
returns-then-not-is_opening c = λ behind h.
    let kind = kind_view c.args.kind in
    ap not c.if-not-is_opening.true ∙ ap (λ x. not x || is_run behind) c.if-not-is_opening.ensures ∙
    ap (λ x. not x && (not (is_opening_kind kind) || is_run behind))
    c.if-not-read_otherwise.ensures
    ∙ agree_is c.args.mode c.args.last c.args.text.now c.args.len kind behind c.requires.kind c.requires.token h

pub returns-else-not-is_opening : goal.returns-else-not-is_opening
returns-else-not-is_opening c = λ behind h.
    let kind = kind_view c.args.kind in
    let text = c.args.text.now in
    c.run_first.ensures behind (subst (λ y. HasTokens c.args.mode y behind) (sym (to_end text c.args.len)) h)
    ∙ ap (λ x. not x || is_run behind) c.if-not-is_opening.ensures ∙
    ap (λ x. not x && (not (is_opening_kind kind) || is_run behind))
    c.if-not-read_otherwise.ensures
    ∙ agree_is c.args.mode c.args.last text c.args.len kind behind c.requires.kind c.requires.token h
