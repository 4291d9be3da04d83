use Rattle.std.proofs.Common.{arith}
use Rattle.std.proofs.lemmas.List.{length-map}
use Rattle.std.proofs.lemmas.Result.{err_from_is_err_and}
use Rattle.mysql_command_rules.specs.declared.road.Road.TheVariants.{Execute}
use Rattle.mysql_command_rules.specs.OneSet.{first_sets}
use Rattle.mysql_command_rules.specs.Sets.{all_given, given_by}
use Rattle.mysql_send.proofs.Statements.{begins}
use Rattle.mysql_send.proofs.execute.executions.put_executions.Goals as goal

pub sets-init : goal.sets-init
sets-init c =
    let s = c.args.statement.now in
    begins c.sent_in_turn.ensures s.sql (all_given c.args.sets.now) s.id c.args.limit
    c.args.out.now.items c.put_prepare.new.out.items c.in_ok-put_prepare.ensures.ok

pub returns-in_err-put_set-clause-err : goal.returns-in_err-put_set-clause-err
returns-in_err-put_set-clause-err c =
    let p = err_from_is_err_and c.from_residual-in_err-put_set.result c.from_residual-in_err-put_set.ensures.1 in
    let law = c.sent_in_turn.ensures in
    let s = c.args.statement.now in
    let params = c.index-sets-set.result in
    rw (p.1, p.2)
    (law.refused_more Execute tt s.sql (all_given c.args.sets.now) s.id c.args.limit c.sets.set
    c.args.out.now.items c.sets.out.items
    (λ names. given_by names params)
    (law.of_list c.args.sets.now c.sets.set params c.sets-test.true c.index-sets-set.is)
    c.sets.invariant
    c.in_err-put_set.field-0.0 c.in_err-put_set.ensures.err).0

pub returns-in_err-put_set-clause-kept : goal.returns-in_err-put_set-clause-kept
returns-in_err-put_set-clause-kept c =
    let s = c.args.statement.now in
    c.sent_in_turn.ensures.kept Execute s.sql (first_sets c.sets.set (all_given c.args.sets.now))
    s.id c.args.limit c.args.out.now.items c.sets.out.items c.put_set.new.out.items
    c.sets.invariant c.put_set.ensures.kept

pub sets-preserved : goal.sets-preserved
sets-preserved c =
    let law = c.sent_in_turn.ensures in
    let s = c.args.statement.now in
    let params = c.index-sets-set.result in
    law.more Execute tt s.sql (all_given c.args.sets.now) s.id c.args.limit c.sets.set
    c.args.out.now.items c.sets.out.items c.put_set.new.out.items
    (λ names. given_by names params)
    (law.of_list c.args.sets.now c.sets.set params c.sets-test.true c.index-sets-set.is)
    c.sets.invariant c.in_ok-put_set.ensures.ok

pub returns-clause-ok : goal.returns-clause-ok
returns-clause-ok c =
    let s = c.args.statement.now in
    c.sent_in_turn.ensures.all Execute s.sql (all_given c.args.sets.now) s.id c.args.limit
    c.sets.set c.args.out.now.items c.sets.out.items
    (λ names. omega (arith, length-map c.args.sets.now (given_by names))) c.sets.invariant
