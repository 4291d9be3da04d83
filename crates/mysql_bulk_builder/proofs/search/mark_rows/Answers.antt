use Rattle.std.proofs.Common.{[], length, arith, Bor, List}
use Rattle.std.proofs.lemmas.List.{length-map}
use Rattle.mysql_cells.specs.declared.value.Value.{Value}
use Rattle.mysql_bulk_builder.specs.RowLists.{row_in, rows_in}
use Rattle.mysql_bulk_builder.proofs.Rows.{row_at}
use Rattle.mysql_bulk_builder.proofs.LongestPart.{seen_more}
use Rattle.mysql_bulk_builder.proofs.search.mark_rows.Goals as goal

pub loop-k-preserved : goal.loop-k-preserved
loop-k-preserved c =
    seen_more (length c.args.seen.now) (rows_in c.args.rows.now) c.loop-k.k c.loop-k.seen
    c.mark.new.seen (row_in c.index-rows-k.result.now) c.loop-k.invariant
    (omega (arith, c.requires.within, length-map c.args.rows.now (λ (r : Bor (List (Bor Value))). row_in r.now)))
    (row_at c.args.rows.now c.loop-k.k c.index-rows-k.result [] (omega (arith, c.requires.within))
    c.index-rows-k.is) c.mark.auto.seen c.mark.ensures
