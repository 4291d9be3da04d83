use Rattle.std.proofs.Common.{◌≡◌, ◌≤◌, length, vec_capacity}
use Rattle.mysql_field_lists.specs.ElementLaws.{with_front}
use Rattle.mysql_rows.specs.Rows.{binary_cells_at, some_cells}
use Rattle.mysql_rows.specs.Views.{column_views}
use Rattle.mysql_rows.proofs.Cells.{cells_from}
use Rattle.mysql_rows.proofs.deserializer.binary_cells.Given as goal

abbrev pub invariant-loop-column : goal.invariant-loop-column
invariant-loop-column g l =
    let offset = g.S.SerializationSide.BIT_OFFSET in
    record {
      cells : with_front l.cells.items
          (cells_from offset l.fn.bitmap l.columns l.column-index l.rest.0.now) ≡
          some_cells (binary_cells_at offset l.fn.bitmap 0 (column_views l.columns)
          l.initial.rest.0.now);
      len : length l.cells.items ≡ l.column-index;
      room : length l.columns ≤ vec_capacity l.cells;
    }
