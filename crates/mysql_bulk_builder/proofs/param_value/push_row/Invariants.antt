use Rattle.std.proofs.Common.{◌≡◌, ◌++◌, map}
use Rattle.mysql_bulk_builder.specs.Bulk.{param_value_of}
use Rattle.mysql_bulk_builder.proofs.param_value.push_row.Given as goal

abbrev pub invariant-loop-value : goal.invariant-loop-value
invariant-loop-value l = l.all.items ++ map param_value_of l.value-iterator.rest.items ≡
    l.fn.all.items ++ map param_value_of l.fn.row.items
