use Rattle.std.proofs.Common.{List, map, subst, ◌∙◌, ◌+◌}
use Rattle.std.proofs.lemmas.List.{map-id}
use Rattle.std.proofs.lemmas.Result.{err_from_is_err_and}
use Rattle.mysql_values.specs.Value.{Value}
use Rattle.mysql_send.specs.Executions.{AppendsExecution, RefusesExecution}
use Rattle.mysql_send.proofs.Lists.{next_set}
use Rattle.mysql_send.proofs.MoreSets.{refused_at, sent_next, values_here}
use Rattle.mysql_send.proofs.execute.executions.put_value_sets.Goals as goal

pub returns-in_err-put_values-clause-err : goal.returns-in_err-put_values-clause-err
returns-in_err-put_values-clause-err c =
    let p = err_from_is_err_and c.from_residual.result c.from_residual.ensures.1 in
    rw (p.1, p.2) (refused_at c.args.id (record { places = c.args.places; bytes = c.args.room })
    c.args.first (map (λ set. set.items) c.args.sets.now) c.args.out.now.items c.sets.out.items
    c.sets.index c.sets.invariant
    c.index-sets-index.result.items
    (values_here c.args.sets.now c.sets.index c.index-sets-index.result
    (next_set c.args.sets.now c.sets.index c.index-sets-index.result c.sets-test.true
    c.index-sets-index.is)) c.in_err-put_values.field-0.0
    (subst (λ (values : List Value). RefusesExecution c.args.id
    (record { places = c.args.places; bytes = c.args.room }) (c.args.first + c.sets.index)
    values c.in_err-put_values.field-0.0)
    (map-id c.as_slice.result.now ∙ c.as_slice.ensures.value) c.in_err-put_values.ensures.err))

pub sets-preserved : goal.sets-preserved
sets-preserved c =
    sent_next c.args.id (record { places = c.args.places; bytes = c.args.room }) c.args.first
    (map (λ set. set.items) c.args.sets.now) c.args.out.now.items c.sets.out.items c.sets.index
    c.sets.invariant
    c.index-sets-index.result.items
    (values_here c.args.sets.now c.sets.index c.index-sets-index.result
    (next_set c.args.sets.now c.sets.index c.index-sets-index.result c.sets-test.true
    c.index-sets-index.is)) c.put_values.new.out.items
    (subst (λ (values : List Value). AppendsExecution c.args.id
    (record { places = c.args.places; bytes = c.args.room }) (c.args.first + c.sets.index)
    values c.sets.out.items c.put_values.new.out.items)
    (map-id c.as_slice.result.now ∙ c.as_slice.ensures.value) c.in_ok-put_values.ensures.ok)
