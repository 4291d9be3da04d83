use Rattle.std.proofs.Common.{map}
use Rattle.mysql_bulk_builder.proofs.Columns.{one_more_type}
use Rattle.mysql_bulk_builder.proofs.flat_values.column_types.Goals as goal

pub loop-column-preserved : goal.loop-column-preserved
loop-column-preserved c =
    one_more_type c.args.arity c.args.count (map (λ value. value.value) c.args.values.now)
    c.loop-column.types.items c.push.new.self.items c.loop-column.column c.column_type_of.result
    c.loop-column.invariant c.column_type_of.ensures c.in_ok-push.ensures.items
