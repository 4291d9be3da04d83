use Rattle.std.proofs.Common.{length}
use Rattle.mysql_bulk_builder.specs.Seen.{AreSeen}
use Rattle.mysql_bulk_builder.specs.RowLists.{rows_in}
use Rattle.mysql_bulk_builder.proofs.search.mark_rows.Given as goal

abbrev pub invariant-loop-k : goal.invariant-loop-k
invariant-loop-k l = AreSeen (length l.initial.seen) (rows_in l.rows) l.k l.seen
