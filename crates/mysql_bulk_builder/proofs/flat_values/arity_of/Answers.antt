use Rattle.std.proofs.Common.{arith}
use Rattle.mysql_bulk_builder.proofs.RequestRows.{all_same, first_is, goes_on, mixed, other_length, same_length}
use Rattle.mysql_bulk_builder.proofs.RequestRows.{some_of}
use Rattle.mysql_bulk_builder.proofs.flat_values.arity_of.Goals as goal

pub returns-then-len-arity-clause-err : goal.returns-then-len-arity-clause-err
returns-then-len-arity-clause-err c =
    mixed c.len-arity.result c.loop-row.row-index c.args.rows.now c.row-item.result
    (first_is c.args.rows.now c.index-rows-0.result c.len-arity.result
    (some_of _ c.if-is_empty.ensures) c.index-rows-0.is (omega (arith, c.len-arity.ensures)))
    c.loop-row-test.true c.row-item.is
    (other_length c.len.result _ _ (omega (arith, c.len.ensures)) c.if-len-arity.true)
    c.loop-row.invariant

pub loop-row-preserved : goal.loop-row-preserved
loop-row-preserved c =
    goes_on c.len-arity.result c.loop-row.row-index c.args.rows.now c.row-item.result
    c.loop-row-test.true c.row-item.is
    (same_length c.len.result _ _ (omega (arith, c.len.ensures)) c.if-len-arity.false)
    c.loop-row.invariant

pub returns-clause-ok : goal.returns-clause-ok
returns-clause-ok c =
    let is = first_is c.args.rows.now c.index-rows-0.result c.len-arity.result
    (some_of _ c.if-is_empty.ensures) c.index-rows-0.is (omega (arith, c.len-arity.ensures)) in (
      all_same c.len-arity.result c.loop-row.row-index c.args.rows.now
          (some_of _ c.if-is_empty.ensures) is c.loop-row-test.false c.loop-row.invariant,
      is,
    )
