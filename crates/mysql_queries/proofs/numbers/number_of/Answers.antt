use Rattle.std.proofs.Common.{◌+◌, arith}
use Rattle.mysql_queries.proofs.Decimals.{value_more, value_front}
use Rattle.mysql_queries.proofs.numbers.number_of.Goals as goal

pub returns-in_default-clause-large : goal.returns-in_default-clause-large
returns-in_default-clause-large c =
    omega (
      arith,
      value_front c.args.digits.now (c.loop-b.b-index + 1),
      value_more c.args.digits.now c.loop-b.b-index c.loop-b-test.true,
      c.loop-b.invariant,
      c.in_default.ensures,
    )

pub returns-in_default-checked_add-clause-large : goal.returns-in_default-checked_add-clause-large
returns-in_default-checked_add-clause-large c =
    omega (
      arith,
      value_front c.args.digits.now (c.loop-b.b-index + 1),
      value_more c.args.digits.now c.loop-b.b-index c.loop-b-test.true,
      c.loop-b.invariant,
      c.in_default-checked_add.ensures,
      c.in-Some.ensures,
    )
