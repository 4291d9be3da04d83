use Rattle.std.proofs.Common.{◌∙◌, ap, arith}
use Rattle.std.proofs.lemmas.Result.{err_from_is_err_and}
use Rattle.mysql_columns.specs.Views.{column_view}
use Rattle.mysql_field_lists.specs.NullBitmap.{is_null_at}
use Rattle.mysql_rows.specs.Rows.{binary_cells_at}
use Rattle.mysql_rows.specs.Views.{column_views}
use Rattle.mysql_row_refs.proofs.CellTails.{binary_tail}
use Rattle.mysql_row_refs.proofs.RowSteps.{binary_ends, binary_goes_on, binary_is_done, inside_more, next_column}
use Rattle.mysql_row_refs.proofs.RowSteps.{one_longer}
use Rattle.mysql_row_refs.proofs.Tails.{tail_of_tail}
use Rattle.mysql_row_refs.proofs.rows.binary_places.Goals as goal

pub returns-in_err-place-clause-cells : goal.returns-in_err-place-clause-cells
returns-in_err-place-clause-cells c =
    let p = err_from_is_err_and c.from_residual.result c.from_residual.ensures.1 in
    let bitmap = c.args.bitmap.now in
    let columns = c.args.columns.now in
    let i = c.loop-column.column-index in
    let bit = c.is_null-null.ensures ∙
    ap (λ bytes. is_null_at 2 bytes.now c.len.result) c.from_bytes-bitmap.ensures ∙
    ap (is_null_at 2 bitmap) (c.len.ensures ∙ c.loop-column.places.ok.0 ∙
    c.loop-column.invariant.len) in
    rw (p.1, p.2) (binary_ends c.args.payload.now bitmap columns c.loop-column.places.items i
    c.loop-column.rest.0.now (binary_cells_at 2 bitmap 0 (column_views columns)
    c.args.rest.now.0.now)
    c.is_null-null.result c.column-item.result c.in_err-place.field-0.0
    (next_column columns i c.column-item.result c.loop-column-test.true c.column-item.is) bit
    c.in_err-place.ensures.cell c.loop-column.invariant.cells)

pub loop-column-preserved : goal.loop-column-preserved
loop-column-preserved c =
    let payload = c.args.payload.now in
    let bitmap = c.args.bitmap.now in
    let columns = c.args.columns.now in
    let i = c.loop-column.column-index in
    let rest = c.null_or_place.new.rest.0.now in
    let bit = c.is_null-null.ensures ∙
    ap (λ bytes. is_null_at 2 bytes.now c.len.result) c.from_bytes-bitmap.ensures ∙
    ap (is_null_at 2 bitmap) (c.len.ensures ∙ c.loop-column.places.ok.0 ∙
    c.loop-column.invariant.len) in
    record {
      cells = rw c.push_reserved.ensures.items
          (binary_goes_on payload bitmap columns c.loop-column.places.items i
          c.loop-column.rest.0.now (binary_cells_at 2 bitmap 0 (column_views columns)
          c.args.rest.now.0.now)
          c.is_null-null.result c.column-item.result c.in_ok-place.place rest
          (next_column columns i c.column-item.result c.loop-column-test.true c.column-item.is)
          bit c.in_ok-place.ensures.cell c.loop-column.invariant.cells);
      tail = tail_of_tail payload c.loop-column.rest.0.now rest c.loop-column.invariant.tail
          (binary_tail c.is_null-null.result (column_view c.column-item.result)
          c.loop-column.rest.0.now rest _ c.in_ok-place.ensures.cell);
      inside = rw c.push_reserved.ensures.items
          (inside_more _ c.loop-column.places.items c.in_ok-place.place
          c.loop-column.invariant.inside c.in_ok-place.ensures.inside);
      len = rw c.push_reserved.ensures.items
          (one_longer c.loop-column.places.items c.in_ok-place.place i c.loop-column.invariant.len);
      capacity = omega (arith, c.push_reserved.ensures.capacity, c.loop-column.invariant.capacity);
    }

pub returns-clause-cells : goal.returns-clause-cells
returns-clause-cells c =
    binary_is_done c.args.payload.now c.args.bitmap.now c.args.columns.now
    c.loop-column.places.items c.loop-column.column-index c.loop-column.rest.0.now
    (binary_cells_at 2 c.args.bitmap.now 0 (column_views c.args.columns.now)
    c.args.rest.now.0.now)
    c.loop-column-test.false c.loop-column.invariant.cells
