use Rattle.std.proofs.Common.{ℕ, ◌<◌, [], get_or}
use Rattle.mysql_bulk_builder.specs.Seen.{IsKnown}
use Rattle.mysql_bulk_builder.specs.RowLists.{rows_in}
use Rattle.mysql_bulk_builder.proofs.search.longest_known.Given as goal

abbrev pub invariant-loop-i : goal.invariant-loop-i
invariant-loop-i l = (k : ℕ) → k < l.i → IsKnown l.seen (get_or (rows_in l.rows) k [])
