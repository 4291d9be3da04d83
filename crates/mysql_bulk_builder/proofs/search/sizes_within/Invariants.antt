use Rattle.std.proofs.Common.{◌≡◌, ℕ, ◌<◌, ◌≤◌, [], get_or, map, take}
use Rattle.mysql_bulk_builder.specs.Cut.{row_size}
use Rattle.mysql_bulk_builder.specs.RowLists.{rows_in}
use Rattle.mysql_bulk_builder.proofs.search.sizes_within.Given as goal

abbrev pub invariant-loop-i : goal.invariant-loop-i
invariant-loop-i l = record {
  sizes : l.sizes.items ≡ map row_size (take l.i (rows_in l.rows));
  within : (k : ℕ) → k < l.i → row_size (get_or (rows_in l.rows) k []) ≤ l.room;
}
