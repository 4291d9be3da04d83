use Rattle.std.proofs.Common.{◌≡◌, ◌++◌, take}
use Rattle.std.specs.List.{flat_map}
use Rattle.mysql_bulk_builder.specs.Bulk.{param_value_bytes}
use Rattle.mysql_bulk_builder.proofs.param_value.put_values.Given as goal

abbrev pub invariant-loop-value : goal.invariant-loop-value
invariant-loop-value l = l.buf.items ≡ l.initial.buf.items ++ flat_map param_value_bytes (take l.value-index l.all)
