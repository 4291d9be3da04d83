use Rattle.std.proofs.Common.{◌≡◌, [], get_or, sym, subst, arith, below_more}
use Rattle.mysql_bulk_builder.specs.Cut.{Row}
use Rattle.mysql_bulk_builder.specs.Seen.{IsKnown}
use Rattle.mysql_bulk_builder.specs.RowLists.{row_in, rows_in}
use Rattle.mysql_bulk_builder.proofs.Rows.{row_at}
use Rattle.mysql_bulk_builder.proofs.search.longest_known.Goals as goal

pub loop-i-preserved : goal.loop-i-preserved
loop-i-preserved c =
    let at : row_in c.index-rows-i.result.now ≡ get_or (rows_in c.args.rows.now) c.loop-i.i [] =
    sym (row_at c.args.rows.now c.loop-i.i c.index-rows-i.result []
    (omega (arith, c.loop-i-test.true, c.requires.most)) c.index-rows-i.is) in
    let here : IsKnown c.args.seen.now (get_or (rows_in c.args.rows.now) c.loop-i.i []) =
    subst (λ (row : Row). IsKnown c.args.seen.now row) at c.if-not-is_known.ensures in
    below_more (λ k. IsKnown c.args.seen.now (get_or (rows_in c.args.rows.now) k [])) c.loop-i.i c.loop-i.invariant here
