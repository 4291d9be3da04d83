use Rattle.std.proofs.Common.{◌≡◌, ◌+◌, ◌++◌, length}
use Rattle.mysql_field_lists.specs.NullBitmap.{is_null_at}
use Rattle.mysql_executions.specs.Executions.{attribute_at, attributes_at}
use Rattle.mysql_executions.specs.Fields.{each_at}
use Rattle.mysql_executions.proofs.Loops.{with_front}
use Rattle.mysql_executions.proofs.value_reading.read_attributes.Given as goal

abbrev pub invariant-loop-bound_type : goal.invariant-loop-bound_type
invariant-loop-bound_type l =
    (l.fn.types.items ≡ l.yielded ++ l.bound_type-iterator.rest.items)
    × (l.place ≡ l.first + length l.yielded)
    × (with_front l.attributes.items
    (each_at (λ at t b. attribute_at (is_null_at 0 l.nulls at) t b) l.place
    l.bound_type-iterator.rest.items l.rest)
    ≡ attributes_at l.nulls l.first l.fn.types.items l.bytes)
