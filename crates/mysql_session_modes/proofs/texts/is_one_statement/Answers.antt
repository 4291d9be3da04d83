use Rattle.std.proofs.Common.{arith}
use Rattle.mysql_queries.specs.TokenKinds.{kind_view}
use Rattle.mysql_queries.proofs.TokenWalks.{short, token_to_end}
use Rattle.mysql_session_modes.specs.Texts.{is_doubtful_kind, is_semicolon_kind}
use Rattle.mysql_session_modes.proofs.TextWalks.{by_kind, one_at_end, one_doubted, one_ends, one_goes_on}
use Rattle.mysql_session_modes.proofs.texts.is_one_statement.Goals as goal

pub returns-then-semicolon : goal.returns-then-semicolon
returns-then-semicolon c = λ tokens h.
    let text = c.args.text.now in
    let at = c.loop-at.at in
    let len = c.token_end-len.result in
    one_ends c.args.mode text at len c.is_all_skipped.result
    (token_to_end c.args.mode text at len c.token_end-len.ensures.token)
    (by_kind is_semicolon_kind c.args.mode text at len (kind_view c.kind_at-kind.result) _
    c.token_end-len.ensures.token c.kind_at-kind.ensures c.if-semicolon.ensures)
    c.is_all_skipped.ensures c.loop-at.invariant.walks tokens h

pub returns-then-doubtful : goal.returns-then-doubtful
returns-then-doubtful c = λ tokens h.
    let text = c.args.text.now in
    let at = c.loop-at.at in
    let len = c.token_end-len.result in
    one_doubted c.args.mode text at len (token_to_end c.args.mode text at len c.token_end-len.ensures.token)
    (by_kind is_semicolon_kind c.args.mode text at len (kind_view c.kind_at-kind.result) _
    c.token_end-len.ensures.token c.kind_at-kind.ensures c.if-semicolon.ensures)
    (by_kind is_doubtful_kind c.args.mode text at len (kind_view c.kind_at-kind.result) _
    c.token_end-len.ensures.token c.kind_at-kind.ensures c.if-doubtful.ensures)
    c.loop-at.invariant.walks tokens h

pub loop-at-preserved : goal.loop-at-preserved
loop-at-preserved c =
    let text = c.args.text.now in
    let at = c.loop-at.at in
    let len = c.token_end-len.result in
    record {
      in_range = short text at len c.loop-at-test.true c.token_end-len.ensures.in_range;
      walks = one_goes_on c.args.mode text at len (token_to_end c.args.mode text at len c.token_end-len.ensures.token)
          (by_kind is_semicolon_kind c.args.mode text at len (kind_view c.kind_at-kind.result) _
          c.token_end-len.ensures.token c.kind_at-kind.ensures c.if-semicolon.ensures)
          (by_kind is_doubtful_kind c.args.mode text at len (kind_view c.kind_at-kind.result) _
          c.token_end-len.ensures.token c.kind_at-kind.ensures c.if-doubtful.ensures)
          c.loop-at.invariant.walks;
    }

pub returns : goal.returns
returns c = λ tokens h. one_at_end c.args.mode c.args.text.now c.loop-at.at
    (omega (arith, c.loop-at-test.false)) c.loop-at.invariant.walks tokens h
