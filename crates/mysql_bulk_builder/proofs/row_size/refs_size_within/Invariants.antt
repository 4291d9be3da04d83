use Rattle.std.proofs.Common.{◌≡◌, ◌+◌, take}
use Rattle.mysql_bulk_builder.specs.Cut.{row_size}
use Rattle.mysql_bulk_builder.specs.RowLists.{row_in}
use Rattle.mysql_bulk_builder.proofs.row_size.refs_size_within.Given as goal

abbrev pub invariant-loop-value : goal.invariant-loop-value
invariant-loop-value l = l.left + row_size (take l.value-index (row_in l.row)) ≡ l.room
