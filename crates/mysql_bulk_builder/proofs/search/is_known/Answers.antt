use Rattle.std.proofs.Common.{◌≡◌, ℕ, true, get_or, sym, ◌∙◌, ap, below_more}
use Rattle.std.proofs.lemmas.Bool.{not-true, true≢false}
use Rattle.mysql_cells.specs.declared.value.Value.TheVariants.{NULL}
use Rattle.mysql_bulk_builder.specs.ValueTypes.{is_null}
use Rattle.mysql_bulk_builder.specs.TypedCut.{has_value_at}
use Rattle.mysql_bulk_builder.specs.Seen.{IsSet}
use Rattle.mysql_bulk_builder.specs.RowLists.{row_in}
use Rattle.mysql_bulk_builder.proofs.Rows.{value_at}
use Rattle.mysql_bulk_builder.proofs.search.is_known.Goals as goal
use Rattle.mysql_bulk_builder.proofs.search.is_known.Goals.{else-not-is_null-via-then-not-is_null+else-not-seen-i}
use Rattle.mysql_bulk_builder.proofs.search.is_known.Goals.{else-not-is_null-via-else-not-is_null}

pub loop-i-preserved : goal.loop-i-preserved
loop-i-preserved c =
    let P = λ (column : ℕ). has_value_at column (row_in c.args.row.now) ≡ true → IsSet c.args.seen.now column in
    let here : has_value_at c.loop-i.i (row_in c.args.row.now) ≡ true →
    IsSet c.args.seen.now c.loop-i.i = elim c.else-not-is_null.branch [
      | else-not-is_null-via-then-not-is_null+else-not-seen-i w ↦ λ has. w.if-not-seen-i.false
      | else-not-is_null-via-else-not-is_null w ↦ λ has.
          let at : is_null (get_or (row_in c.args.row.now) c.loop-i.i NULL) ≡
          is_null c.index-row-i.result.now =
          ap is_null (value_at c.args.row.now c.loop-i.i c.index-row-i.result NULL
          c.loop-i-test.true c.index-row-i.is) in
          let null : is_null c.index-row-i.result.now ≡ true = sym c.is_null.ensures ∙ w.if-not-is_null.false in
          absurd (true≢false (sym (at ∙ null) ∙ not-true _ has))
    ] in
    below_more P c.loop-i.i c.loop-i.invariant here
