use Rattle.std.proofs.Common.{arith, below_more}
use Rattle.mysql_rows.specs.Views.{row_view}
use Rattle.mysql_reply_writer.proofs.CellFacts.{each_fits}
use Rattle.mysql_reply_writer.proofs.facts.cells_fit.Goals as goal

pub loop-place-preserved : goal.loop-place-preserved
loop-place-preserved c = below_more _ _ c.loop-place.invariant c.cell_fits.ensures

pub returns : goal.returns
returns c = each_fits (row_view c.args.row.now).cells
    (λ k lt. c.loop-place.invariant k (omega (arith, c.len-place-end.ensures.cells, lt)))
