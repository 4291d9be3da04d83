use Rattle.std.proofs.Common.{◌<◌, [], length, sym, ◌∙◌, ap, arith, Bor, List}
use Rattle.std.proofs.lemmas.List.{length-map}
use Rattle.mysql_cells.specs.declared.value.Value.{Value}
use Rattle.mysql_bulk_builder.specs.RowLists.{row_in, rows_in}
use Rattle.mysql_bulk_builder.specs.ValueTypes.{is_null}
use Rattle.mysql_bulk_builder.proofs.FirstValues.{first_found, first_passes}
use Rattle.mysql_bulk_builder.proofs.Rows.{row_at}
use Rattle.mysql_bulk_builder.proofs.first_values.first_in_column.Goals as goal

pub returns-then-not-is_null : goal.returns-then-not-is_null
returns-then-not-is_null c =
    let rows = rows_in c.args.rows.now in
    let lt : c.loop-row.row-index < length rows =
    omega (
      arith,
      c.loop-row-test.true,
      length-map c.args.rows.now (λ (r : Bor (List (Bor Value))). row_in r.now),
    ) in
    let at = row_at c.args.rows.now c.loop-row.row-index c.row-item.result [] c.loop-row-test.true c.row-item.is in
    c.value_in-value.ensures ∙
    sym (c.loop-row.invariant ∙
    first_found c.args.column rows c.loop-row.row-index (row_in c.row-item.result.now) lt at
    (ap is_null (sym c.value_in-value.ensures) ∙ sym c.is_null.ensures ∙ c.if-not-is_null.true))

pub loop-row-preserved : goal.loop-row-preserved
loop-row-preserved c =
    let rows = rows_in c.args.rows.now in
    let lt : c.loop-row.row-index < length rows =
    omega (
      arith,
      c.loop-row-test.true,
      length-map c.args.rows.now (λ (r : Bor (List (Bor Value))). row_in r.now),
    ) in
    let at = row_at c.args.rows.now c.loop-row.row-index c.row-item.result [] c.loop-row-test.true c.row-item.is in
    c.loop-row.invariant ∙ first_passes c.args.column rows c.loop-row.row-index
    (row_in c.row-item.result.now) lt at (ap is_null (sym c.value_in-value.ensures) ∙
    sym c.is_null.ensures ∙ c.if-not-is_null.false)
