use Rattle.std.proofs.Common.{◌≡◌, ◌++◌, map}
use Rattle.mysql_bulk_builder.specs.Bulk.{all_values, param_value_of}
use Rattle.mysql_bulk_builder.proofs.flat_values.flat.Given as goal

abbrev pub invariant-loop-row : goal.invariant-loop-row
invariant-loop-row l =
    l.values.items ++ map param_value_of (all_values (map (λ row. row.items) l.row-iterator.rest.items))
    ≡ map param_value_of (all_values (map (λ row. row.items) l.fn.rows.items))
