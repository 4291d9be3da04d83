use Rattle.std.proofs.Common.{◌≡◌, take}
use Rattle.mysql_bulk_builder.proofs.request_error.row_copy.Given as goal

abbrev pub invariant-loop-value : goal.invariant-loop-value
invariant-loop-value l = l.copy.items ≡ take l.value-index l.row
