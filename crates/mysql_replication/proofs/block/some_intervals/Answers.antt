use Rattle.std.proofs.lemmas.Result.{err_from_is_err_and}
use Rattle.mysql_field_lists.specs.Lists.{elements_at}
use Rattle.mysql_replication.specs.Blocks.{interval_at}
use Rattle.mysql_field_lists.specs.ElementLaws.{goes_on, ends, is_done}
use Rattle.mysql_replication.proofs.block.some_intervals.Goals as goal

pub returns-in_err-interval : goal.returns-in_err-interval
returns-in_err-interval c =
    let p = err_from_is_err_and c.from_residual.result c.from_residual.ensures.1 in
    rw (p.1, p.2) (ends interval_at c.in_err-interval.field-0.0 c.loop.intervals.items c.args.count
    c.loop.counter c.loop.rest.0.now
    (elements_at interval_at c.args.count c.args.rest.now.0.now) c.loop-test.true
    (λ _. c.in_err-interval.ensures.0) c.loop.invariant)

pub loop-preserved : goal.loop-preserved
loop-preserved c =
    rw c.in_ok-push.ensures.items
    (goes_on interval_at c.loop.intervals.items c.args.count c.loop.counter c.loop.rest.0.now
    c.in_ok-interval.interval c.parse.new.self.0.now
    (elements_at interval_at c.args.count c.args.rest.now.0.now) c.loop-test.true
    c.in_ok-interval.ensures c.loop.invariant)

pub returns : goal.returns
returns c = is_done interval_at c.loop.intervals.items c.args.count c.loop.counter c.loop.rest.0.now
    (elements_at interval_at c.args.count c.args.rest.now.0.now) c.loop-test.false c.loop.invariant
