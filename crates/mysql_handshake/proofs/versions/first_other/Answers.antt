use Rattle.std.proofs.Common.{sym, arith}
use Rattle.std.proofs.lemmas.List.Sums.{prefix_len_is}
use Rattle.mysql_handshake.specs.Versions.{is_digit}
use Rattle.mysql_handshake.proofs.versions.first_other.Goals as goal

pub returns-then-not-is_digit : goal.returns-then-not-is_digit
returns-then-not-is_digit c =
    sym (prefix_len_is is_digit c.args.text.now c.loop-i.i 0 (omega arith) c.loop-i.invariant
    (λ _. cc))

pub returns : goal.returns
returns c = sym (prefix_len_is is_digit c.args.text.now _ 0 (omega arith)
    (λ k lt. c.loop-i.invariant k (omega arith)) (λ lt. absurd (omega arith)))
