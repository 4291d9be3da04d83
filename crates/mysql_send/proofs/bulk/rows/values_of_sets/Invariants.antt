use Rattle.std.specs.Cow.{cow_slice_items}
use Rattle.std.proofs.Common.{map, ◌≡◌, List}
use Rattle.mysql_bulk_builder.specs.Cut.{Row}
use Rattle.mysql_bulk_builder.specs.RowLists.{row_in}
use Rattle.mysql_send.specs.BulkSets.{AreRows}
use Rattle.mysql_send.proofs.SetRows.{RowsSoFar}
use Rattle.mysql_send.proofs.bulk.rows.values_of_sets.Given as goal

abbrev pub invariant-sets : goal.invariant-sets
invariant-sets l = record {
  given : (rows : List Row) ×
      RowsSoFar (map cow_slice_items l.statement.names.now)
      (record { places = l.statement.places; bytes = l.room }) l.sets rows l.set ×
      AreRows l.statement.places (row_in l.values.items) rows;
  stop : l.stop ≡ l.fn.stop;
}
