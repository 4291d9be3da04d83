use Rattle.std.proofs.Common.{◌≡◌, ◌++◌, ◌-◌, ◌≤◌, List, length, drop}
use Rattle.std.specs.Prelude.{All}
use Rattle.mysql_bulk_builder.specs.Cut.{Row}
use Rattle.mysql_bulk_builder.specs.RowLists.{row_in, rows_in}
use Rattle.mysql_send.specs.BulkSets.{AreRows}
use Rattle.mysql_send.proofs.bulk.rows.lent_rows.Given as goal

-- the rows that are left stand from the next start on
abbrev pub invariant-rows : goal.invariant-rows
invariant-rows l = record {
  within : l.start ≤ length l.values;
  same : (rows : List Row) → AreRows l.columns (row_in l.values) rows → (left : List Row) ×
      (rows_in l.lent.items ++ left ≡ rows) ×
      AreRows l.columns (row_in (drop l.start l.values)) left;
  wide : All (λ row. length row.now ≡ l.columns) l.lent.items;
}

abbrev pub decreases-rows : goal.decreases-rows
decreases-rows l = length l.values - l.start
