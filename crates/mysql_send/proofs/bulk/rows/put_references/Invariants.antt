use Rattle.std.proofs.Common.{◌≡◌, ◌++◌, take}
use Rattle.mysql_bulk_builder.specs.RowLists.{row_in}
use Rattle.mysql_send.proofs.bulk.rows.put_references.Given as goal

abbrev pub invariant-loop-value : goal.invariant-loop-value
invariant-loop-value l = row_in l.values.items ≡ row_in l.fn.values.items ++ row_in (take l.value-index l.row)
