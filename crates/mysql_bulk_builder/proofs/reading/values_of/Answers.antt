use Rattle.std.proofs.Common.{refl}
use Rattle.std.proofs.lemmas.Result.{err_from_is_err_and}
use Rattle.mysql_bulk_builder.specs.Reading.{each_at, param_value_at}
use Rattle.mysql_bulk_builder.proofs.Each.{ends, goes_on, is_done}
use Rattle.mysql_bulk_builder.proofs.reading.values_of.Goals as goal

pub returns-in_err-value : goal.returns-in_err-value
returns-in_err-value c =
    let p = err_from_is_err_and c.from_residual.result c.from_residual.ensures.1 in
    rw (p.1, p.2) (ends param_value_at c.loop-column.values.items c.args.columns.now
    c.loop-column.column-index c.loop-column.rest.0.now
    (each_at param_value_at c.args.columns.now c.args.rest.now.0.now)
    c.in_err-value.field-0.0 _ _ c.loop-column-test.true refl c.in_err-value.ensures.0 c.loop-column.invariant)

pub loop-column-preserved : goal.loop-column-preserved
loop-column-preserved c =
    rw c.in_ok-push.ensures.items
    (goes_on param_value_at c.loop-column.values.items c.args.columns.now
    c.loop-column.column-index c.loop-column.rest.0.now
    (each_at param_value_at c.args.columns.now c.args.rest.now.0.now)
    _ _ c.in_ok-value.value c.parse.new.self.0.now c.loop-column-test.true refl
    c.in_ok-value.ensures c.loop-column.invariant)

pub returns : goal.returns
returns c =
    is_done param_value_at c.loop-column.values.items c.args.columns.now c.loop-column.column-index
    c.loop-column.rest.0.now (each_at param_value_at c.args.columns.now c.args.rest.now.0.now)
    c.loop-column-test.false c.loop-column.invariant
