use Rattle.std.proofs.Common.{◌≡◌, ◌+◌, ◌++◌, ◌∷◌, ◌<◌, ◌≤◌, [], length, map, take, get_or, sym, ◌∙◌, ap, arith}
use Rattle.std.proofs.Common.{below_more, Bor, List, ℕ}
use Rattle.std.proofs.lemmas.List.{length-map, map-append, take_more}
use Rattle.mysql_cells.specs.declared.value.Value.{Value}
use Rattle.mysql_bulk_builder.specs.Cut.{Row, row_size}
use Rattle.mysql_bulk_builder.specs.RowLists.{row_in, rows_in}
use Rattle.mysql_bulk_builder.proofs.Rows.{row_at}
use Rattle.mysql_bulk_builder.proofs.search.sizes_within.Goals as goal

pub loop-i-preserved : goal.loop-i-preserved
loop-i-preserved c =
    let rows = rows_in c.args.rows.now in
    let lt : c.loop-i.i < length rows =
    omega (
      arith,
      c.loop-i-test.true,
      length-map c.args.rows.now (λ (r : Bor (List (Bor Value))). row_in r.now),
    ) in
    let at : row_size (get_or rows c.loop-i.i []) ≡ row_size (row_in c.index-rows-i.result.now) =
    ap row_size (row_at c.args.rows.now c.loop-i.i c.index-rows-i.result [] c.loop-i-test.true
    c.index-rows-i.is) in
    let size : c.in-Some.size ≡ row_size (get_or rows c.loop-i.i []) = c.in-Some.ensures.0 ∙ sym at in
    record {
      sizes = c.in_ok-push-in-Some.ensures.items ∙
          ap (λ (l : List ℕ). l ++ c.in-Some.size ∷ []) c.loop-i.invariant.sizes ∙
          ap (λ (n : ℕ). map row_size (take c.loop-i.i rows) ++ n ∷ []) size
          ∙ sym (map-append row_size (take c.loop-i.i rows) (get_or rows c.loop-i.i [] ∷ [])) ∙
          ap (λ (l : List Row). map row_size l) (sym (take_more rows c.loop-i.i [] lt));
      within = below_more (λ k. row_size (get_or rows k []) ≤ c.args.room) c.loop-i.i
          c.loop-i.invariant.within (omega (arith, at, c.in-Some.ensures));
    }
