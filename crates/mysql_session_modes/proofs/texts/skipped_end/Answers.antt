use Rattle.std.proofs.Common.{arith}
use Rattle.mysql_queries.specs.TokenKinds.{kind_view}
use Rattle.mysql_queries.proofs.TokenWalks.{short, token_to_end}
use Rattle.mysql_session_modes.specs.Texts.{is_skipped_kind}
use Rattle.mysql_session_modes.proofs.TextWalks.{by_kind, skip_ends, skip_goes_on, skip_stops}
use Rattle.mysql_session_modes.proofs.texts.skipped_end.Goals as goal

pub returns-then-not-skipped-clause-rest : goal.returns-then-not-skipped-clause-rest
returns-then-not-skipped-clause-rest c = λ tokens h.
    let text = c.args.text.now in
    let at = c.loop-at.at in
    let len = c.token_end-len.result in
    skip_stops c.args.mode text at len (token_to_end c.args.mode text at len c.token_end-len.ensures.token)
    (by_kind is_skipped_kind c.args.mode text at len (kind_view c.kind_at-kind.result) _
    c.token_end-len.ensures.token c.kind_at-kind.ensures c.if-not-skipped.ensures)
    c.loop-at.invariant.walks tokens h

pub loop-at-preserved : goal.loop-at-preserved
loop-at-preserved c =
    let text = c.args.text.now in
    let at = c.loop-at.at in
    let len = c.token_end-len.result in
    record {
      in_range = short text at len c.loop-at-test.true c.token_end-len.ensures.in_range;
      walks = skip_goes_on c.args.mode text at len (token_to_end c.args.mode text at len c.token_end-len.ensures.token)
          (by_kind is_skipped_kind c.args.mode text at len (kind_view c.kind_at-kind.result) _
          c.token_end-len.ensures.token c.kind_at-kind.ensures c.if-not-skipped.ensures)
          c.loop-at.invariant.walks;
    }

pub returns-clause-rest : goal.returns-clause-rest
returns-clause-rest c = λ tokens h. skip_ends c.args.mode c.args.text.now c.loop-at.at
    (omega (arith, c.loop-at-test.false)) c.loop-at.invariant.walks tokens h
