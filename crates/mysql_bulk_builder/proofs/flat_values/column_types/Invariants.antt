use Rattle.std.proofs.Common.{◌≡◌, map}
use Rattle.std.specs.List.{range_with_len}
use Rattle.mysql_bulk_builder.specs.Bulk.{column_type_of}
use Rattle.mysql_bulk_builder.proofs.flat_values.column_types.Given as goal

abbrev pub invariant-loop-column : goal.invariant-loop-column
invariant-loop-column l = l.types.items ≡
    map (column_type_of l.arity l.count (map (λ value. value.value) l.values))
    (range_with_len 0 l.column)
