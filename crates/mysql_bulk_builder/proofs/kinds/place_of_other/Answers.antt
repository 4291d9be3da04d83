use Rattle.std.proofs.Common.{◌≡◌, ◌+◌, ◌<◌, false, get_or, length, refl, sym, ◌∙◌, arith, below_more, subst, List, Bor}
use Rattle.std.proofs.Common.{ℕ}
use Rattle.mysql_cells.specs.declared.value.Value.{Value}
use Rattle.mysql_cells.specs.declared.value.Value.TheVariants.{NULL}
use Rattle.mysql_bulk_builder.specs.RowLists.{row_in}
use Rattle.mysql_bulk_builder.proofs.FirstValues.{Filled, filled_before, filled_here, first_other, first_values_more}
use Rattle.mysql_bulk_builder.proofs.FirstValues.{is_other, none_is_other, null_has_no_other, other_here}
use Rattle.mysql_bulk_builder.proofs.Rows.{value_at}
use Rattle.mysql_bulk_builder.proofs.kinds.place_of_other.Goals as goal
use Rattle.mysql_bulk_builder.proofs.kinds.place_of_other.Goals.{then-is_null, else-is_null+else-is_other}

pub returns-then-is_other-clause-place : goal.returns-then-is_other-clause-place
returns-then-is_other-clause-place c = λ before is.
    let inside : c.loop-i.i < length c.loop-i.firsts =
    omega (arith, c.loop-i-test.true, c.requires, c.loop-i.auto.firsts) in
    first_other c.args.firsts.now c.args.row.now c.requires before is c.loop-i.i c.loop-i-test.true
    (other_here c.args.firsts.now c.loop-i.firsts c.args.row.now c.loop-i.i
    c.index-firsts-i-else-is_null.result c.index-row-i.result c.loop-i.invariant.filled
    c.loop-i-test.true inside c.index-firsts-i-else-is_null.is c.index-row-i.is
    ∙ sym c.is_other.ensures ∙ c.if-is_other.true)
    c.loop-i.invariant.none

pub loop-i-preserved : goal.loop-i-preserved
loop-i-preserved c =
    let was = c.args.firsts.now in
    let now = c.loop-i.firsts in
    let row = c.args.row.now in
    let i = c.loop-i.i in
    let inside : c.loop-i.i < length c.loop-i.firsts =
    omega (arith, c.loop-i-test.true, c.requires, c.loop-i.auto.firsts) in
    let filled = c.loop-i.invariant.filled in
    let other = λ (k : ℕ). is_other (get_or (row_in was) k NULL) (get_or (row_in row) k NULL) ≡ false in
    elim c.if-is_null.branch [
      | then-is_null w ↦
          let null = sym c.is_null.ensures ∙ w.if-is_null.true in
          record {
            filled = filled_here was now c.if-is_null.firsts (row_in row) i c.index-firsts-i.result
                c.index-row-i.result filled inside c.index-firsts-i.is
                (value_at row i c.index-row-i.result NULL c.loop-i-test.true c.index-row-i.is) null w.firsts-is;
            none = below_more other i c.loop-i.invariant.none
                (other_here was now row i c.index-firsts-i.result c.index-row-i.result filled
                c.loop-i-test.true inside c.index-firsts-i.is c.index-row-i.is
                ∙ null_has_no_other c.index-firsts-i.result.now c.index-row-i.result.now null);
          }
      | else-is_null+else-is_other w ↦ record {
        filled = subst (λ (l : List (Bor Value)). Filled was l (row_in row) (i + 1)) (sym w.firsts-is)
            (filled_before was now (row_in row) i c.index-firsts-i.result filled inside
            c.index-firsts-i.is (sym c.is_null.ensures ∙ w.if-is_null.false));
        none = below_more other i c.loop-i.invariant.none
            (other_here was now row i w.index-firsts-i-else-is_null.result c.index-row-i.result
            filled c.loop-i-test.true inside w.index-firsts-i-else-is_null.is c.index-row-i.is
            ∙ sym w.is_other.ensures ∙ w.if-is_other.false);
      }
    ]

pub returns-clause-place : goal.returns-clause-place
returns-clause-place c = λ before is. none_is_other c.args.firsts.now c.args.row.now c.requires
    before is (λ k lt. c.loop-i.invariant.none k (omega (arith, lt, c.loop-i-test.false)))

pub returns-clause-firsts : goal.returns-clause-firsts
returns-clause-firsts c = λ none before is.
    first_values_more (length c.args.firsts.now) c.args.firsts.now c.loop-i.firsts
    (row_in c.args.row.now) refl c.loop-i.auto.firsts
    (λ column lt. c.loop-i.invariant.filled.put column (omega (arith, lt, c.loop-i-test.false, c.requires))) before is
