use Rattle.std.proofs.Common.{◌≡◌, drop, map, take}
use Rattle.std.specs.Prelude.{IsTrue, is_none, zip}
use Rattle.std.specs.List.{position_from}
use Rattle.std.specs.Option.{option_and_then}
use Rattle.mysql_rows.specs.Views.{column_views}
use Rattle.mysql_rows.specs.CellsWritten.{AreOwn, cells_in}
use Rattle.mysql_rows.specs.Written.{binary_cause, cell_in}
use Rattle.mysql_rows.proofs.NullBits.{RowSoFar, row_marks}
use Rattle.mysql_rows.proofs.binary_writing.put_cells_as.Given as goal

abbrev pub invariant-loop-place : goal.invariant-loop-place
invariant-loop-place g l = record {
  so_far : RowSoFar (take l.bitmap l.initial.out.items) (row_marks l.place (map g.C.Held.held l.cells))
      (cells_in (column_views (drop l.place l.columns)) (map g.C.Held.held (drop l.place l.cells)))
      (cells_in (column_views l.columns) (map g.C.Held.held l.cells)) l.out.items;
  caused : position_from (λ placed. is_none (option_and_then (cell_in placed.0) placed.1)) l.place
      (zip (column_views (drop l.place l.columns)) (map g.C.Held.held (drop l.place l.cells)))
      ≡ binary_cause (column_views l.columns) (map g.C.Held.held l.cells);
  own : IsTrue l.own → AreOwn (map g.C.Held.held (drop l.place l.cells)) → AreOwn (map g.C.Held.held l.cells);
}
