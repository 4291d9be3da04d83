use Rattle.mysql_bulk_builder.proofs.Columns.{inside, one_more_row}
use Rattle.mysql_bulk_builder.proofs.flat_values.column_type_of.Goals as goal

pub loop-row-preserved : goal.loop-row-preserved
loop-row-preserved c =
    one_more_row c.args.values.now c.args.arity c.args.column c.loop-row.row c.loop-row.found
    c.merged-found.result c.index-values-row.result c.value.result.now
    (inside c.loop-row.row c.args.count c.args.arity c.args.column _ c.loop-row-test.true
    c.requires.inside c.requires.whole)
    c.index-values-row.is c.value.ensures c.loop-row.invariant c.merged-found.ensures
