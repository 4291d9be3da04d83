use Rattle.mysql_queries.proofs.Cuts.{goes_on_more, quoted_closed, quoted_open}
use Rattle.mysql_queries.proofs.tokens.quoted_end.Goals as goal

pub loop-i-preserved : goal.loop-i-preserved
loop-i-preserved c = record {
  in_range = c.in-Some.ensures.part.4;
  goes_on = goes_on_more c.args.escapes c.args.quote c.args.text.now c.loop-i.i c.in-Some.n
      c.loop-i.invariant.goes_on c.in-Some.ensures.part;
}

pub returns-in-None-clause-shape : goal.returns-in-None-clause-shape
returns-in-None-clause-shape c =
    quoted_closed c.args.escapes c.args.quote c.args.text.now c.loop-i.i c.requires.some
    c.requires.begins c.loop-i-test.true c.loop-i.invariant.goes_on c.in-None.ensures.closed

pub returns-clause-shape : goal.returns-clause-shape
returns-clause-shape c = quoted_open c.args.escapes c.args.quote c.args.text.now c.loop-i.i
    c.requires.some c.requires.begins c.loop-i-test.false c.loop-i.invariant.goes_on
