use Rattle.std.proofs.Common.{arith, sym, ap, ◌∙◌, ◌≡◌, ◌||◌, true, get_or}
use Rattle.mysql_queries.specs.PlaceKinds.{is_place_kind}
use Rattle.mysql_queries.specs.TokenKinds.{kind_view}
use Rattle.mysql_queries.specs.Tokens.{is_simple_byte}
use Rattle.mysql_queries.proofs.Follow.{or_first, or_true}
use Rattle.mysql_queries.proofs.TokenWalks.{kind_to_end, run_ends, run_goes_on, run_stops, short, token_to_end}
use Rattle.mysql_queries.proofs.alone.run_end.Goals as goal
use Rattle.mysql_queries.proofs.alone.run_end.Goals.{
  else-not-is_simple_one-via-then-not-is_simple_one+else-not-is_placeholder,
}
use Rattle.mysql_queries.proofs.alone.run_end.Goals.{else-not-is_simple_one-via-else-not-is_simple_one}

pub returns-then-not-is_placeholder-clause-run : goal.returns-then-not-is_placeholder-clause-run
returns-then-not-is_placeholder-clause-run c = λ tokens h.
    run_stops c.args.mode c.args.text.now c.loop-at.at (kind_view c.kind_at-kind.result)
    c.loop-at-test.true (kind_to_end _ c.args.text.now c.loop-at.at c.kind_at-kind.ensures)
    (sym c.if-not-is_placeholder.ensures) (sym c.if-not-is_simple_one.ensures) c.loop-at.invariant.walks tokens h

pub loop-at-preserved : goal.loop-at-preserved
loop-at-preserved c =
    let text = c.args.text.now in
    let at = c.loop-at.at in
    let len = c.token_end-at.result in
    let kind = kind_view c.kind_at-kind.result in
    let goes : (is_place_kind kind || is_simple_byte (get_or text at 0)) ≡ true = elim c.else-not-is_simple_one.branch [
      | else-not-is_simple_one-via-then-not-is_simple_one+else-not-is_placeholder w ↦ or_first
          (is_place_kind kind) (is_simple_byte (get_or text at 0))
          (sym w.if-not-is_placeholder.ensures)
      | else-not-is_simple_one-via-else-not-is_simple_one w ↦ or_true (is_place_kind kind)
          (is_simple_byte (get_or text at 0)) (sym w.if-not-is_simple_one.ensures)
    ] in
    record {
      in_range = short text at len c.loop-at-test.true c.token_end-at.ensures.in_range;
      walks = run_goes_on c.args.mode text at len kind c.loop-at-test.true
          (token_to_end c.args.mode text at len c.token_end-at.ensures.token)
          (kind_to_end _ text at c.kind_at-kind.ensures) goes c.loop-at.invariant.walks;
    }

pub returns-clause-run : goal.returns-clause-run
returns-clause-run c = λ tokens h. run_ends c.args.mode c.args.text.now c.loop-at.at
    (omega (arith, c.loop-at-test.false)) c.loop-at.invariant.walks tokens h
