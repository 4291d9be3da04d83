use Rattle.std.proofs.Common.{◌≡◌, ℕ, List, length, Option, sym, subst, ap, ◌∙◌}
use Rattle.std.specs.Prelude.{IfOk}
use Rattle.std.specs.List.{flat_map}
use Rattle.std.proofs.lemmas.List.{drop_all}
use Rattle.mysql_executions.specs.Unclear.{cells_in_row, first_unclear}
use Rattle.mysql_executions.specs.Views.{cells_of, rows_of, types_by, types_of}
use Rattle.mysql_executions.specs.declared.bulk.BulkValue.{BulkValue}
use Rattle.mysql_executions.specs.declared.unclear.Looked.TheVariants as looked
use Rattle.mysql_executions.proofs.CellsInTurn.{next_rows, row_found, rows_found}
use Rattle.mysql_executions.proofs.Loops.{at_place}
use Rattle.mysql_executions.proofs.unclear.read_unclear_rows.Goals as goal

pub returns-in-Unclear : goal.returns-in-Unclear
returns-in-Unclear c =
    let cells = cells_in_row (types_by (types_of c.args.own.now) c.args.in_force.now) in
    let total = first_unclear 1 0 (flat_map cells (rows_of c.args.rows.now)) c.args.bytes.now in
    let here = at_place c.args.rows.now c.loop-row.row-index c.row-item.result c.loop-row-test.true c.row-item.is in
    let same : c.as_slice.result.now ≡ c.row-item.result.items = cc (c.as_slice.ensures.value, c.row-item.is) in
    subst (λ (found : Option (ℕ × List ℕ)). IfOk c.keep_cells.result (λ kept. cells_of kept ≡ found))
    (sym (row_found cells c.args.rows.now c.loop-row.rest.now total c.loop-row.row-index
    c.loop-row.first c.loop-row.invariant c.row-item.result c.as_slice.result.now
    (looked.Unclear c.in-Unclear.place c.in-Unclear.cell) here same c.in-Unclear.ensures))
    c.keep_cells.ensures

pub returns-in-Cut : goal.returns-in-Cut
returns-in-Cut c =
    let cells = cells_in_row (types_by (types_of c.args.own.now) c.args.in_force.now) in
    let total = first_unclear 1 0 (flat_map cells (rows_of c.args.rows.now)) c.args.bytes.now in
    let here = at_place c.args.rows.now c.loop-row.row-index c.row-item.result c.loop-row-test.true c.row-item.is in
    let same : c.as_slice.result.now ≡ c.row-item.result.items = cc (c.as_slice.ensures.value, c.row-item.is) in
    sym (row_found cells c.args.rows.now c.loop-row.rest.now total c.loop-row.row-index
    c.loop-row.first c.loop-row.invariant c.row-item.result c.as_slice.result.now looked.Cut
    here same c.in-Cut.ensures)

pub loop-row-preserved : goal.loop-row-preserved
loop-row-preserved c =
    let cells = cells_in_row (types_by (types_of c.args.own.now) c.args.in_force.now) in
    let total = first_unclear 1 0 (flat_map cells (rows_of c.args.rows.now)) c.args.bytes.now in
    let here = at_place c.args.rows.now c.loop-row.row-index c.row-item.result c.loop-row-test.true c.row-item.is in
    let same : c.as_slice.result.now ≡ c.row-item.result.items = cc (c.as_slice.ensures.value, c.row-item.is) in
    let again : c.as_slice-in-loop-row.result.now ≡ c.row-item.result.items =
    cc (c.as_slice-in-loop-row.ensures.value, c.row-item.is) in
    let wide : c.width_of-width.result ≡ length (cells c.as_slice.result.now) =
    c.width_of-width.ensures ∙
    ap (λ (s : List BulkValue). length (cells s)) (again ∙ sym same) in
    next_rows cells c.args.rows.now c.loop-row.rest.now total c.loop-row.row-index c.loop-row.first
    c.loop-row.invariant c.width_of-width.result c.in-Some.behind c.as_slice.result.now
    c.in-Clear.after.now wide c.in-Some.ensures.1
    (row_found cells c.args.rows.now c.loop-row.rest.now total c.loop-row.row-index c.loop-row.first
    c.loop-row.invariant c.row-item.result c.as_slice.result.now (looked.Clear c.in-Clear.after)
    here same c.in-Clear.ensures)

pub returns : goal.returns
returns c =
    let cells = cells_in_row (types_by (types_of c.args.own.now) c.args.in_force.now) in
    let total = first_unclear 1 0 (flat_map cells (rows_of c.args.rows.now)) c.args.bytes.now in
    sym (rows_found cells c.args.rows.now c.loop-row.rest.now total c.loop-row.row-index
    c.loop-row.first c.loop-row.invariant
    (drop_all c.loop-row.row-index c.args.rows.now c.loop-row-test.false))
