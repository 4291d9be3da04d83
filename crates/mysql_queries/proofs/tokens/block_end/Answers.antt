use Rattle.std.proofs.Common.{arith}
use Rattle.mysql_queries.proofs.Cuts.{block_more, block_closed, block_open}
use Rattle.mysql_queries.proofs.tokens.block_end.Goals as goal
use Rattle.mysql_queries.proofs.tokens.block_end.Goals.{else-text-i-eq42-via-then-text-i-eq42+else-text-i-eq47}
use Rattle.mysql_queries.proofs.tokens.block_end.Goals.{else-text-i-eq42-via-else-text-i-eq42}

pub returns-then-text-i-eq47-clause-shape : goal.returns-then-text-i-eq47-clause-shape
returns-then-text-i-eq47-clause-shape c =
    block_closed c.args.text.now c.loop-i.i c.requires.some c.requires.first c.requires.second
    c.loop-i-test.true c.loop-i.invariant.goes_on c.if-text-i-eq42.true c.if-text-i-eq47.true

pub loop-i-preserved : goal.loop-i-preserved
loop-i-preserved c = record {
  from = omega (arith, c.loop-i.invariant.from);
  in_range = omega (arith, c.loop-i-test.true);
  goes_on = block_more c.args.text.now c.loop-i.i c.loop-i-test.true c.loop-i.invariant.goes_on
      (λ e. elim c.else-text-i-eq42.branch [
        | else-text-i-eq42-via-then-text-i-eq42+else-text-i-eq47 w ↦ w.if-text-i-eq47.false
        | else-text-i-eq42-via-else-text-i-eq42 w ↦ absurd (w.if-text-i-eq42.false e)
      ]);
}

pub returns-clause-shape : goal.returns-clause-shape
returns-clause-shape c = block_open c.args.text.now c.loop-i.i c.requires.some c.requires.first
    c.requires.second c.loop-i-test.false c.loop-i.invariant.goes_on
