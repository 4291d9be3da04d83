use Rattle.std.proofs.Common.{◌≡◌, length, map, true, vec_capacity}
use Rattle.std.specs.List.{list_all}
use Rattle.mysql_field_lists.specs.ElementLaws.{with_front}
use Rattle.mysql_rows.specs.Rows.{binary_cells_at}
use Rattle.mysql_rows.specs.Views.{column_views}
use Rattle.mysql_row_refs.specs.Places.{IsTail, held, is_inside}
use Rattle.mysql_row_refs.proofs.RowSteps.{cells_from}
use Rattle.mysql_row_refs.proofs.rows.binary_places.Given as goal

abbrev pub invariant-loop-column : goal.invariant-loop-column
invariant-loop-column l = record {
  cells : with_front (map (held l.payload) l.places.items)
      (cells_from l.fn.bitmap l.columns l.column-index l.rest.0.now) ≡
      binary_cells_at 2 l.fn.bitmap 0 (column_views l.columns) l.initial.rest.0.now;
  tail : IsTail l.payload l.rest.0.now;
  inside : list_all (is_inside l.payload) l.places.items ≡ true;
  len : length l.places.items ≡ l.column-index;
  capacity : vec_capacity l.places ≡ vec_capacity l.initial.places;
}
