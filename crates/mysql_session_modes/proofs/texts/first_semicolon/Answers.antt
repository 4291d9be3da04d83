use Rattle.std.proofs.Common.{◌==◌, not, ap, arith, length, sym}
use Rattle.std.proofs.lemmas.Bool.{false_from_ne_true}
use Rattle.std.proofs.lemmas.List.Sums.{prefix_len_is}
use Rattle.mysql_session_modes.specs.Texts.{semicolon}
use Rattle.mysql_session_modes.proofs.texts.first_semicolon.Goals as goal

pub returns-in-Some-clause-len : goal.returns-in-Some-clause-len
returns-in-Some-clause-len c =
    sym (prefix_len_is (λ b. not (b == semicolon)) c.args.text.now c.in-Some.at 0
    (omega (arith, c.in-Some.ensures.0.high))
    (λ k less. ap not (false_from_ne_true _ (c.in-Some.ensures.0.before k (omega arith) less)))
    (λ less. ap not c.in-Some.ensures.1))

pub returns-in-None-clause-len : goal.returns-in-None-clause-len
returns-in-None-clause-len c =
    sym (prefix_len_is (λ b. not (b == semicolon)) c.args.text.now (length c.args.text.now) 0 (omega arith)
    (λ k less. ap not (false_from_ne_true _ (c.in-None.ensures k (omega arith) less)))
    (λ less. absurd (omega (arith, less))))
