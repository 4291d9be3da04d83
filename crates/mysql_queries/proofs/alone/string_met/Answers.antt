use Rattle.std.proofs.Common.{arith, refl, true, false, sym, ap, ◌∙◌, subst, drop, take, ◌≡◌, ◌<◌, ℕ}
use Rattle.mysql_queries.specs.Alone.{is_left_out_kind}
use Rattle.mysql_queries.specs.TokenKinds.{kind_view}
use Rattle.mysql_queries.proofs.TokenWalks.{kind_to_end, meets_at, meets_none, meets_on, short, to_end, token_to_end}
use Rattle.mysql_queries.proofs.alone.string_met.Goals as goal

pub returns-then-not-left_out : goal.returns-then-not-left_out
returns-then-not-left_out c = λ tokens h.
    let text = c.args.text.now in
    let at = c.loop-at.at in
    c.string_of.ensures ∙ meets_at c.args.mode text at (kind_view c.kind_at-kind.result) false
    c.loop-at-test.true (kind_to_end _ text at c.kind_at-kind.ensures)
    (λ len some. c.if-not-left_out.ensures len some ∙
    ap (λ y. is_left_out_kind (kind_view c.kind_at-kind.result) (take len y)) (to_end text at))
    refl c.loop-at.invariant.walks tokens h

pub loop-at-preserved : goal.loop-at-preserved
loop-at-preserved c =
    let text = c.args.text.now in
    let at = c.loop-at.at in
    let len = c.token_end-at.result in
    record {
      in_range = short text at len c.loop-at-test.true c.token_end-at.ensures.in_range;
      walks = meets_on c.args.mode text at len (kind_view c.kind_at-kind.result) true
          c.token_end-at.ensures.some
          (token_to_end c.args.mode text at len c.token_end-at.ensures.token)
          (kind_to_end _ text at c.kind_at-kind.ensures)
          (λ n some. c.if-not-left_out.ensures n some ∙
          ap (λ y. is_left_out_kind (kind_view c.kind_at-kind.result) (take n y))
          (to_end text at)) refl c.loop-at.invariant.walks;
    }

pub returns : goal.returns
returns c = λ tokens h. meets_none c.args.mode c.args.text.now c.loop-at.at
    (omega (arith, c.loop-at-test.false)) c.loop-at.invariant.walks tokens h
