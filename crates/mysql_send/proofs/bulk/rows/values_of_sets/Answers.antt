use Rattle.std.specs.Cow.{cow_slice_items}
use Rattle.std.proofs.Common.{map, ◌++◌, ◌∷◌, []}
use Rattle.std.proofs.lemmas.Result.{err_from_is_err_and}
use Rattle.mysql_bulk_builder.specs.RowLists.{row_in}
use Rattle.mysql_send.proofs.SetRows.{refused_at, row_behind, row_more}
use Rattle.mysql_send.proofs.Lists.{next_set}
use Rattle.mysql_send.specs.Executions.{Limits}
use Rattle.mysql_send.proofs.bulk.rows.values_of_sets.Goals as goal

pub sets-preserved : goal.sets-preserved
sets-preserved c =
    let names = (map cow_slice_items c.args.statement.now.names.now) in
    let limits : Limits = record { places = c.args.statement.now.places; bytes = c.args.room } in
    let so_far = c.sets.invariant.given in
    let more = c.in_ok-put_row_of_set.ensures.ok in
    let here = next_set c.args.sets.now c.sets.set c.index-sets-set.result c.sets-test.true c.index-sets-set.is in
    record {
      given = (
        so_far.0 ++ more.0 ∷ [],
        row_more names limits c.args.sets.now so_far.0 c.sets.set so_far.1 c.index-sets-set.result here more.0 more.1,
        row_behind c.args.statement.now.places (row_in c.sets.values.items) _ so_far.0 more.0 so_far.2 more.2 more.3,
      );
      stop = c.sets.invariant.stop;
    }

pub returns-in_err-put_row_of_set-clause-err : goal.returns-in_err-put_row_of_set-clause-err
returns-in_err-put_row_of_set-clause-err c =
    let p = err_from_is_err_and c.from_residual.result c.from_residual.ensures.1 in
    rw (p.1, p.2) (refused_at (map cow_slice_items c.args.statement.now.names.now)
    (record { places = c.args.statement.now.places; bytes = c.args.room }) c.args.sets.now
    c.sets.invariant.given.0 c.sets.set c.sets.invariant.given.1
    c.index-sets-set.result (next_set c.args.sets.now c.sets.set c.index-sets-set.result
    c.sets-test.true c.index-sets-set.is) c.args.stop c.in_err-put_row_of_set.field-0.0
    c.in_err-put_row_of_set.ensures.err)
