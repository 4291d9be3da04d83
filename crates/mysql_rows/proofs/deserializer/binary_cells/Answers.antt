use Rattle.std.proofs.Common.{◌∙◌, ap, arith, Some}
use Rattle.std.proofs.lemmas.Result.{err_from_is_err_and}
use Rattle.mysql_field_lists.specs.NullBitmap.{is_null_at}
use Rattle.mysql_rows.specs.Rows.{binary_cells_at, some_cells}
use Rattle.mysql_rows.specs.Views.{column_views}
use Rattle.mysql_rows.proofs.Cells.{binary_goes_on, binary_ends, binary_is_done, next_column, one_more}
use Rattle.mysql_rows.proofs.deserializer.binary_cells.Goals as goal

pub returns-in_err-value-clause-cells : goal.returns-in_err-value-clause-cells
returns-in_err-value-clause-cells g c =
    let p = err_from_is_err_and c.from_residual-in_err-value.result c.from_residual-in_err-value.ensures.1 in
    let offset = g.S.SerializationSide.BIT_OFFSET in
    let bitmap = c.args.bitmap.now in
    let columns = c.args.columns.now in
    let i = c.loop-column.column-index in
    let bit = c.is_null-null.ensures ∙
    ap (λ bytes. is_null_at offset bytes.now c.len.result) c.from_bytes-bitmap.ensures ∙
    ap (is_null_at offset bitmap) (c.len.ensures ∙ c.loop-column.cells.ok.0 ∙
    c.loop-column.invariant.len) in
    rw (p.1, p.2) (binary_ends offset bitmap columns c.loop-column.cells.items i
    c.loop-column.rest.0.now (some_cells
    (binary_cells_at offset bitmap 0 (column_views columns) c.args.rest.now.0.now))
    c.is_null-null.result c.column-item.result c.in_err-value.field-0.0
    (next_column columns i c.column-item.result c.loop-column-test.true c.column-item.is) bit
    c.in_err-value.ensures c.loop-column.invariant.cells)

pub loop-column-preserved : goal.loop-column-preserved
loop-column-preserved g c =
    let offset = g.S.SerializationSide.BIT_OFFSET in
    let bitmap = c.args.bitmap.now in
    let columns = c.args.columns.now in
    let i = c.loop-column.column-index in
    let bit = c.is_null-null.ensures ∙
    ap (λ bytes. is_null_at offset bytes.now c.len.result) c.from_bytes-bitmap.ensures ∙
    ap (is_null_at offset bitmap) (c.len.ensures ∙ c.loop-column.cells.ok.0 ∙
    c.loop-column.invariant.len) in
    record {
      cells = rw c.push_reserved.ensures.items
          (binary_goes_on offset bitmap columns c.loop-column.cells.items i c.loop-column.rest.0.now
          (some_cells (binary_cells_at offset bitmap 0 (column_views columns)
          c.args.rest.now.0.now))
          c.is_null-null.result c.column-item.result c.in_ok-value.value
          c.binary_cell.new.rest.0.now
          (next_column columns i c.column-item.result c.loop-column-test.true c.column-item.is)
          bit c.in_ok-value.ensures c.loop-column.invariant.cells);
      len = rw c.push_reserved.ensures.items
          (one_more c.loop-column.cells.items (Some c.in_ok-value.value) i
          c.loop-column.invariant.len);
      room = omega (arith, c.push_reserved.ensures.capacity, c.loop-column.invariant.room);
    }

pub returns-clause-cells : goal.returns-clause-cells
returns-clause-cells g c =
    let offset = g.S.SerializationSide.BIT_OFFSET in
    binary_is_done offset c.args.bitmap.now c.args.columns.now c.loop-column.cells.items
    c.loop-column.column-index c.loop-column.rest.0.now
    (some_cells (binary_cells_at offset c.args.bitmap.now 0 (column_views c.args.columns.now)
    c.args.rest.now.0.now))
    c.loop-column-test.false c.loop-column.invariant.cells
