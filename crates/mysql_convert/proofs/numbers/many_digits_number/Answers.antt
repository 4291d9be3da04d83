use Rattle.std.proofs.Common.{rules, ◌^◌, arith}
use Rattle.mysql_convert.proofs.Digits.{ended, large}
use Rattle.mysql_convert.proofs.numbers.many_digits_number.Goals as goal

pub returns-in_default-clause-none : goal.returns-in_default-clause-none
returns-in_default-clause-none c =
    large c.loop-byte.n (2 ^ 128) c.args.digits.now c.loop-byte.byte-index c.loop-byte-test.true
    (search rules) c.loop-byte.invariant (omega (arith, c.in_default.ensures))

pub returns-in_default-checked_add-clause-none : goal.returns-in_default-checked_add-clause-none
returns-in_default-checked_add-clause-none c =
    large c.loop-byte.n (2 ^ 128) c.args.digits.now c.loop-byte.byte-index c.loop-byte-test.true
    (search rules) c.loop-byte.invariant
    (omega (arith, c.in-Some.ensures, c.in_default-checked_add.ensures))

pub returns-clause-some : goal.returns-clause-some
returns-clause-some c = ended c.loop-byte.n c.args.digits.now c.loop-byte.byte-index (search rules)
    (search rules) c.loop-byte.invariant
