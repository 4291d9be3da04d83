use Rattle.std.proofs.Common.{◌<◌, ◌^◌, rules, arith, sym}
use Rattle.mysql_convert.proofs.Digits.{eighteen, ended}
use Rattle.mysql_convert.proofs.numbers.few_digits_number.Goals as goal

pub overflow_mul-n : goal.overflow_mul-n
overflow_mul-n c =
    let few : c.loop-byte.n < 10 ^ 18 =
    eighteen c.loop-byte.n c.loop-byte.byte-index c.loop-byte.invariant.below
    (omega (arith, c.loop-byte-test.true, c.requires)) in
    omega (arith, few)

pub overflow_add-n : goal.overflow_add-n
overflow_add-n c =
    let few : c.loop-byte.n < 10 ^ 18 =
    eighteen c.loop-byte.n c.loop-byte.byte-index c.loop-byte.invariant.below
    (omega (arith, c.loop-byte-test.true, c.requires)) in
    search rules

pub returns : goal.returns
returns c = sym (ended c.loop-byte.n c.args.digits.now c.loop-byte.byte-index (search rules)
    (search rules) c.loop-byte.invariant.so_far)
