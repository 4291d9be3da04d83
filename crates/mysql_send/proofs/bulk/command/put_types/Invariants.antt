use Rattle.std.proofs.Common.{◌≡◌, ◌++◌, take}
use Rattle.std.specs.List.{flat_map}
use Rattle.mysql_bulk_builder.specs.Bulk.{param_type_bytes, type_of_value}
use Rattle.mysql_send.proofs.bulk.command.put_types.Given as goal

abbrev pub invariant-loop-value : goal.invariant-loop-value
invariant-loop-value l = l.command.items ≡ l.initial.command.items ++
    flat_map (λ value. param_type_bytes (type_of_value value.now)) (take l.value-index l.values)
