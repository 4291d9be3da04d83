use Rattle.std.proofs.Common.{◌≡◌, ℕ, ◌<◌, true}
use Rattle.mysql_bulk_builder.specs.TypedCut.{has_value_at}
use Rattle.mysql_bulk_builder.specs.Seen.{IsSet}
use Rattle.mysql_bulk_builder.specs.RowLists.{row_in}
use Rattle.mysql_bulk_builder.proofs.search.is_known.Given as goal

abbrev pub invariant-loop-i : goal.invariant-loop-i
invariant-loop-i l = (column : ℕ) → column < l.i → has_value_at column (row_in l.row) ≡ true → IsSet l.seen column
