use Rattle.std.proofs.lemmas.Result.{err_from_is_err_and}
use Rattle.mysql_field_lists.specs.ElementLaws.{ends, goes_on, is_done}
use Rattle.mysql_field_lists.specs.Lists.{elements_at}
use Rattle.mysql_bulk_builder.specs.Reading.{param_type_at}
use Rattle.mysql_bulk_builder.proofs.request_reading.many_types.Goals as goal

pub returns-in_err-one : goal.returns-in_err-one
returns-in_err-one c =
    let p = err_from_is_err_and c.from_residual.result c.from_residual.ensures.1 in
    rw (p.1, p.2) (ends param_type_at c.in_err-one.field-0.0 c.loop.types.items c.args.count
    c.loop.counter c.loop.rest.0.now
    (elements_at param_type_at c.args.count c.args.rest.now.0.now) c.loop-test.true
    (λ _. c.in_err-one.ensures.0) c.loop.invariant)

pub loop-preserved : goal.loop-preserved
loop-preserved c =
    rw c.in_ok-push.ensures.items
    (goes_on param_type_at c.loop.types.items c.args.count c.loop.counter c.loop.rest.0.now
    c.in_ok-one.one c.parse.new.self.0.now
    (elements_at param_type_at c.args.count c.args.rest.now.0.now) c.loop-test.true
    c.in_ok-one.ensures c.loop.invariant)

pub returns : goal.returns
returns c = is_done param_type_at c.loop.types.items c.args.count c.loop.counter c.loop.rest.0.now
    (elements_at param_type_at c.args.count c.args.rest.now.0.now) c.loop-test.false c.loop.invariant
