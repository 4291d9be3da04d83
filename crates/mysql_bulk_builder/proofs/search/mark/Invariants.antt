use Rattle.std.proofs.Common.{◌≡◌, ℕ, ◌<◌, ◌≤◌, false, get_or}
use Rattle.std.specs.Prelude.{◌||◌}
use Rattle.mysql_bulk_builder.specs.TypedCut.{has_value_at}
use Rattle.mysql_bulk_builder.specs.RowLists.{row_in}
use Rattle.mysql_bulk_builder.proofs.search.mark.Given as goal

abbrev pub invariant-loop-i : goal.invariant-loop-i
invariant-loop-i l = record {
  marked : (column : ℕ) → column < l.i → get_or l.seen column false ≡
      (get_or l.initial.seen column false || has_value_at column (row_in l.row));
  rest : (column : ℕ) → l.i ≤ column → get_or l.seen column false ≡ get_or l.initial.seen column false;
}
