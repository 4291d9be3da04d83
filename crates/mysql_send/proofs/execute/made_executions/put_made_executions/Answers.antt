use Rattle.std.proofs.Common.{arith}
use Rattle.std.proofs.lemmas.Result.{err_from_is_err_and}
use Rattle.mysql_command_rules.specs.declared.road.Road.TheVariants.{Execute}
use Rattle.mysql_command_rules.specs.OneSet.{first_sets}
use Rattle.mysql_command_rules.specs.Sets.{given_by}
use Rattle.mysql_send.proofs.Statements.{not_made}
use Rattle.mysql_send.proofs.execute.made_executions.put_made_executions.Goals as goal

pub returns-in_err-params-clause-err : goal.returns-in_err-params-clause-err
returns-in_err-params-clause-err g c =
    let p = err_from_is_err_and c.from_residual-in_err-params.result c.from_residual-in_err-params.ensures.1 in
    rw (p.1, p.2) (
    not_made c.sent_in_turn.ensures c.args.statement.now.sql (g.S.SetMaker.given c.args.sets.now)
    c.args.statement.now.id c.args.limit c.loop-number.number c.args.out.now.items
    c.loop-number.out.items c.loop-number.invariant.1
    c.in_err-params.field-0.0 c.in_err-params.ensures.err)

pub returns-in_err-put_set-clause-err : goal.returns-in_err-put_set-clause-err
returns-in_err-put_set-clause-err g c =
    let p = err_from_is_err_and c.from_residual-in_err-put_set.result c.from_residual-in_err-put_set.ensures.1 in
    rw (p.1, p.2) (
    (c.sent_in_turn.ensures.refused_more Execute tt c.args.statement.now.sql
    (g.S.SetMaker.given c.args.sets.now) c.args.statement.now.id c.args.limit
    c.loop-number.number c.args.out.now.items c.loop-number.out.items
    (λ names. given_by names c.in_ok-params.params) c.in_ok-params.ensures.ok c.loop-number.invariant.1
    c.in_err-put_set.field-0.0 c.in_err-put_set.ensures.err).0)

pub returns-in_err-put_set-clause-kept : goal.returns-in_err-put_set-clause-kept
returns-in_err-put_set-clause-kept g c =
    c.sent_in_turn.ensures.kept Execute c.args.statement.now.sql
    (first_sets c.loop-number.number (g.S.SetMaker.given c.args.sets.now))
    c.args.statement.now.id c.args.limit c.args.out.now.items c.loop-number.out.items
    c.put_set.new.out.items
    c.loop-number.invariant.1 c.put_set.ensures.kept

pub loop-number-preserved : goal.loop-number-preserved
loop-number-preserved g c = (
  c.made_in_turn.ensures.more (g.S.SetMaker.given c.args.sets.now) c.loop-number.number
      c.in_ok-params.params c.in_ok-params.ensures.ok c.loop-number.invariant.0,
  c.sent_in_turn.ensures.more Execute tt c.args.statement.now.sql
      (g.S.SetMaker.given c.args.sets.now) c.args.statement.now.id c.args.limit c.loop-number.number
      c.args.out.now.items c.loop-number.out.items c.put_set.new.out.items
      (λ names. given_by names c.in_ok-params.params) c.in_ok-params.ensures.ok
      c.loop-number.invariant.1 c.in_ok-put_set.ensures.ok,
)

pub returns-clause-ok : goal.returns-clause-ok
returns-clause-ok g c =
    c.sent_in_turn.ensures.all Execute c.args.statement.now.sql (g.S.SetMaker.given c.args.sets.now)
    c.args.statement.now.id c.args.limit c.loop-number.number c.args.out.now.items
    c.loop-number.out.items
    (λ names. omega (arith, c.len-number-end.ensures names)) c.loop-number.invariant.1
