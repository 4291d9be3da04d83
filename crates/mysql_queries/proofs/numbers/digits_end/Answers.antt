use Rattle.std.proofs.Common.{◌≡◌, true, arith, sym}
use Rattle.mysql_queries.specs.Literals.{is_digit}
use Rattle.mysql_queries.proofs.Decimals.{slice_more}
use Rattle.mysql_queries.proofs.numbers.digits_end.Goals as goal

pub loop-end-preserved : goal.loop-end-preserved
loop-end-preserved c = record {
  order = omega (arith, c.loop-end.invariant.order);
  in_range = omega (arith, c.loop-end-test.true);
  each = slice_more (λ b. is_digit b ≡ true) c.args.text.now c.args.from c.loop-end.end
      c.loop-end.invariant.order c.loop-end-test.true c.loop-end.invariant.each
      (sym c.if-digit.ensures);
}
