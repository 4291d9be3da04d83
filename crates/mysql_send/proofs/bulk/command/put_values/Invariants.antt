use Rattle.std.proofs.Common.{◌≡◌, ◌++◌, take}
use Rattle.std.specs.List.{flat_map}
use Rattle.mysql_bulk_builder.specs.RowLists.{row_in}
use Rattle.mysql_send.specs.BulkSets.{row_bytes}
use Rattle.mysql_send.proofs.bulk.command.put_values.Given as goal

abbrev pub invariant-loop-row : goal.invariant-loop-row
invariant-loop-row l = l.command.items ≡ l.initial.command.items ++
    flat_map (λ row. row_bytes (row_in row.now)) (take l.row-index l.rows)
