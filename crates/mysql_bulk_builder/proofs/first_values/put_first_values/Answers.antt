use Rattle.std.proofs.Common.{◌+◌, ◌<◌, length, refl, sym, ◌∙◌, subst, arith, List, Bor}
use Rattle.mysql_cells.specs.declared.value.Value.{Value}
use Rattle.mysql_cells.specs.declared.value.Value.TheVariants.{NULL}
use Rattle.mysql_bulk_builder.specs.RowLists.{rows_in}
use Rattle.mysql_bulk_builder.specs.ValueTypes.{first_values}
use Rattle.mysql_bulk_builder.proofs.FirstValues.{Filled, filled_before, filled_here, first_here, first_values_more}
use Rattle.mysql_bulk_builder.proofs.FirstValues.{first_values_of_rows}
use Rattle.mysql_bulk_builder.proofs.first_values.put_first_values.Goals as goal
use Rattle.mysql_bulk_builder.proofs.first_values.put_first_values.Goals.{then-is_null, else-is_null}

pub loop-column-preserved : goal.loop-column-preserved
loop-column-preserved c =
    let columns = length c.args.firsts.now in
    let rows = rows_in c.args.rows.now in
    let row = first_values columns rows in
    let lt : c.loop-column.column < length c.loop-column.firsts =
    omega (arith, c.loop-column-test.true, c.loop-column.auto.firsts) in
    elim c.if-is_null.branch [
      | then-is_null w ↦ filled_here c.args.firsts.now c.loop-column.firsts c.if-is_null.firsts row
          c.loop-column.column c.index-firsts-column.result w.first_in_column.result
          c.loop-column.invariant lt c.index-firsts-column.is
          (first_here columns rows c.loop-column.column NULL
          (omega (arith, lt, c.loop-column.auto.firsts)) ∙ sym w.first_in_column.ensures)
          (sym c.is_null.ensures ∙ w.if-is_null.true) w.firsts-is
      | else-is_null w ↦ subst (λ (l : List (Bor Value)). Filled c.args.firsts.now l row
          (c.loop-column.column + 1)) (sym w.firsts-is)
          (filled_before c.args.firsts.now c.loop-column.firsts row c.loop-column.column
          c.index-firsts-column.result c.loop-column.invariant lt c.index-firsts-column.is
          (sym c.is_null.ensures ∙ w.if-is_null.false))
    ]

pub returns : goal.returns
returns c = λ before is.
    let columns = length c.args.firsts.now in
    let rows = rows_in c.args.rows.now in
    first_values_more columns c.args.firsts.now c.loop-column.firsts (first_values columns rows)
    refl c.loop-column.auto.firsts
    (λ column lt. c.loop-column.invariant.put column (omega (arith, lt, c.loop-column-test.false))) before is
    ∙ first_values_of_rows columns before rows
