use Rattle.std.proofs.Common.{◌≡◌, ◌++◌, take}
use Rattle.std.specs.List.{flat_map}
use Rattle.mysql_bulk_builder.specs.Bulk.{param_value_bytes, param_value_of}
use Rattle.mysql_send.proofs.bulk.command.put_row.Given as goal

abbrev pub invariant-loop-value : goal.invariant-loop-value
invariant-loop-value l = l.command.items ≡ l.initial.command.items ++
    flat_map (λ value. param_value_bytes (param_value_of value.now)) (take l.value-index l.row)
