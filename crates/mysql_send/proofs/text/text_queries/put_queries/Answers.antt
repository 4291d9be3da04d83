use Rattle.std.proofs.Common.{arith}
use Rattle.std.proofs.lemmas.List.{length-map, take_all}
use Rattle.std.proofs.lemmas.Result.{err_from_is_err_and}
use Rattle.mysql_command_rules.specs.declared.road.Road.TheVariants.{Text}
use Rattle.mysql_command_rules.specs.OneSet.{first_sets}
use Rattle.mysql_command_rules.specs.Sets.{all_given, given_by}
use Rattle.mysql_send.proofs.text.text_queries.put_queries.Goals as goal

pub returns-in_err-put_query-clause-err : goal.returns-in_err-put_query-clause-err
returns-in_err-put_query-clause-err c =
    let p = err_from_is_err_and c.from_residual-in_err-put_query.result c.from_residual-in_err-put_query.ensures.1 in
    let law = c.sent_in_turn.ensures in
    let params = c.index-sets-set.result in
    rw (p.1, p.2) (λ id.
    (law.refused_more Text tt c.args.query.now.sql (all_given c.args.sets.now) id c.args.limit
    c.sets.set c.args.out.now.items c.sets.out.items
    (λ names. given_by names params)
    (law.of_list c.args.sets.now c.sets.set params c.sets-test.true c.index-sets-set.is)
    (c.sets.invariant id)
    c.in_err-put_query.field-0.0 (c.in_err-put_query.ensures.err id)).0)

pub returns-in_err-put_query-clause-kept : goal.returns-in_err-put_query-clause-kept
returns-in_err-put_query-clause-kept c =
    c.sent_in_turn.ensures.kept Text c.args.query.now.sql
    (first_sets c.sets.set (all_given c.args.sets.now)) 0 c.args.limit c.args.out.now.items
    c.sets.out.items c.put_query.new.out.items
    (c.sets.invariant 0) c.put_query.ensures.kept

pub sets-preserved : goal.sets-preserved
sets-preserved c =
    let law = c.sent_in_turn.ensures in
    let params = c.index-sets-set.result in λ id.
    law.more Text tt c.args.query.now.sql (all_given c.args.sets.now) id c.args.limit c.sets.set
    c.args.out.now.items c.sets.out.items c.put_query.new.out.items
    (λ names. given_by names params)
    (law.of_list c.args.sets.now c.sets.set params c.sets-test.true c.index-sets-set.is)
    (c.sets.invariant id) (c.in_ok-put_query.ensures.ok id)

pub returns-clause-ok : goal.returns-clause-ok
returns-clause-ok c = λ id.
    c.sent_in_turn.ensures.all Text c.args.query.now.sql (all_given c.args.sets.now) id c.args.limit
    c.sets.set c.args.out.now.items c.sets.out.items
    (λ names. omega (arith, length-map c.args.sets.now (given_by names))) (c.sets.invariant id)

pub returns-clause-kept : goal.returns-clause-kept
returns-clause-kept c =
    let out = c.sets.out.items in
    c.sent_in_turn.ensures.kept Text c.args.query.now.sql
    (first_sets c.sets.set (all_given c.args.sets.now)) 0 c.args.limit c.args.out.now.items out
    out
    (c.sets.invariant 0) (take_all _ out (omega arith))
