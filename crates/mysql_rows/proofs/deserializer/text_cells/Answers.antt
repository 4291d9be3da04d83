use Rattle.std.proofs.Common.{Some, arith}
use Rattle.std.proofs.lemmas.Result.{err_from_is_err_and}
use Rattle.mysql_field_lists.specs.Lists.{elements_at}
use Rattle.mysql_cells.specs.Cells.{text_cell_at}
use Rattle.mysql_rows.specs.Rows.{some_cells}
use Rattle.mysql_rows.proofs.Cells.{goes_on, ends, is_done, one_more}
use Rattle.mysql_rows.proofs.deserializer.text_cells.Goals as goal

pub returns-in_err-value-clause-cells : goal.returns-in_err-value-clause-cells
returns-in_err-value-clause-cells c =
    let p = err_from_is_err_and c.from_residual-in_err-value.result c.from_residual-in_err-value.ensures.1 in
    rw (p.1, p.2) (ends text_cell_at c.loop.cells.items c.args.count c.loop.counter c.loop.rest.0.now
    (some_cells (elements_at text_cell_at c.args.count c.args.rest.now.0.now))
    c.in_err-value.field-0.0 c.loop-test.true c.in_err-value.ensures.0 c.loop.invariant.cells)

pub loop-preserved : goal.loop-preserved
loop-preserved c =
    record {
      cells = rw c.push_reserved.ensures.items
          (goes_on text_cell_at c.loop.cells.items c.args.count c.loop.counter c.loop.rest.0.now
          (some_cells (elements_at text_cell_at c.args.count c.args.rest.now.0.now))
          c.in_ok-value.value c.read_text_cell.new.buf.0.now c.loop-test.true
          c.in_ok-value.ensures c.loop.invariant.cells);
      len = rw c.push_reserved.ensures.items
          (one_more c.loop.cells.items (Some c.in_ok-value.value) c.loop.counter
          c.loop.invariant.len);
      room = omega (arith, c.push_reserved.ensures.capacity, c.loop.invariant.room);
    }

pub returns-clause-cells : goal.returns-clause-cells
returns-clause-cells c = is_done text_cell_at c.loop.cells.items c.args.count c.loop.counter c.loop.rest.0.now
    (some_cells (elements_at text_cell_at c.args.count c.args.rest.now.0.now)) c.loop-test.false c.loop.invariant.cells
