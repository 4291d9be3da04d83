use Rattle.std.proofs.Common.{arith, map}
use Rattle.std.proofs.lemmas.Result.{err_from_is_err_and}
use Rattle.mysql_field_lists.specs.ElementLaws.{is_done}
use Rattle.mysql_field_lists.specs.Lists.{elements_at}
use Rattle.mysql_cells.specs.Cells.{text_cell_at}
use Rattle.mysql_row_refs.specs.Places.{held}
use Rattle.mysql_row_refs.proofs.CellTails.{text_tail}
use Rattle.mysql_row_refs.proofs.RowSteps.{inside_more, one_longer, text_ends, text_goes_on}
use Rattle.mysql_row_refs.proofs.Tails.{tail_of_tail}
use Rattle.mysql_row_refs.proofs.rows.text_places.Goals as goal

pub returns-in_err-place-clause-cells : goal.returns-in_err-place-clause-cells
returns-in_err-place-clause-cells c =
    let p = err_from_is_err_and c.from_residual.result c.from_residual.ensures.1 in
    rw (p.1, p.2) (text_ends text_cell_at c.args.payload.now c.loop.places.items c.args.count
    c.loop.counter c.loop.rest.0.now
    (elements_at text_cell_at c.args.count c.args.rest.now.0.now) c.in_err-place.field-0.0
    c.loop-test.true c.in_err-place.ensures.cell c.loop.invariant.cells)

pub loop-preserved : goal.loop-preserved
loop-preserved c =
    record {
      cells = rw c.push_reserved.ensures.items
          (text_goes_on text_cell_at c.args.payload.now c.loop.places.items c.args.count
          c.loop.counter c.loop.rest.0.now
          (elements_at text_cell_at c.args.count c.args.rest.now.0.now) c.in_ok-place.place
          c.text_place.new.rest.0.now c.loop-test.true c.in_ok-place.ensures.cell
          c.loop.invariant.cells);
      tail = tail_of_tail c.args.payload.now c.loop.rest.0.now c.text_place.new.rest.0.now
          c.loop.invariant.tail (text_tail c.loop.rest.0.now c.text_place.new.rest.0.now _
          c.in_ok-place.ensures.cell);
      inside = rw c.push_reserved.ensures.items
          (inside_more _ c.loop.places.items c.in_ok-place.place c.loop.invariant.inside
          c.in_ok-place.ensures.inside);
      len = rw c.push_reserved.ensures.items
          (one_longer c.loop.places.items c.in_ok-place.place c.loop.counter c.loop.invariant.len);
      capacity = omega (arith, c.push_reserved.ensures.capacity, c.loop.invariant.capacity);
    }

pub returns-clause-cells : goal.returns-clause-cells
returns-clause-cells c = is_done text_cell_at (map (held c.args.payload.now) c.loop.places.items)
    c.args.count c.loop.counter c.loop.rest.0.now
    (elements_at text_cell_at c.args.count c.args.rest.now.0.now) c.loop-test.false c.loop.invariant.cells
