use Rattle.std.proofs.Common.{◌≤◌, Bor, arith, sym}
use Rattle.std.proofs.lemmas.List.{length-map}
use Rattle.mysql_cells.specs.declared.value.Value.{Value}
use Rattle.mysql_cells.specs.Cells.{bin_len}
use Rattle.mysql_bulk_builder.specs.RowLists.{row_in}
use Rattle.mysql_bulk_builder.proofs.Rows.{past_room, size_more, value_at}
use Rattle.mysql_bulk_builder.proofs.row_size.refs_size_within.Goals as goal

pub returns-then-left-len : goal.returns-then-left-len
returns-then-left-len c =
    let past : c.loop-value.left ≤ bin_len c.value-item.result.now =
    omega (arith, c.if-left-len.true, c.bin_len-len.ensures) in
    let at = value_at c.args.row.now c.loop-value.value-index c.value-item.result
    c.value-item.result.now c.loop-value-test.true c.value-item.is in
    past_room (row_in c.args.row.now) c.loop-value.value-index c.args.room c.loop-value.left
    c.value-item.result.now (omega (
      arith,
      c.loop-value-test.true,
      length-map c.args.row.now (λ (v : Bor Value). v.now),
    )) (sym at) c.loop-value.invariant past

pub loop-value-preserved : goal.loop-value-preserved
loop-value-preserved c =
    let more = size_more c.args.row.now c.loop-value.value-index c.value-item.result
    c.loop-value-test.true c.value-item.is in
    omega (arith, more, c.loop-value.invariant, c.if-left-len.false, c.bin_len-len.ensures)
