use Rattle.std.proofs.Common.{arith}
use Rattle.std.proofs.lemmas.List.{take_all}
use Rattle.std.proofs.lemmas.Result.{err_from_is_err_and}
use Rattle.mysql_command_rules.specs.declared.road.Road.TheVariants.{Text}
use Rattle.mysql_command_rules.specs.OneSet.{first_sets}
use Rattle.mysql_command_rules.specs.Sets.{given_by}
use Rattle.mysql_send.proofs.Texts.{not_made}
use Rattle.mysql_send.proofs.text.made_queries.put_made_queries.Goals as goal

pub returns-in_err-params-clause-err : goal.returns-in_err-params-clause-err
returns-in_err-params-clause-err g c =
    let p = err_from_is_err_and c.from_residual-in_err-params.result c.from_residual-in_err-params.ensures.1 in
    rw (p.1, p.2) (λ id.
    not_made c.sent_in_turn.ensures c.args.query.now.sql (g.S.SetMaker.given c.args.sets.now) id
    c.args.limit c.loop-number.number c.args.out.now.items c.loop-number.out.items
    (c.loop-number.invariant.1 id)
    c.in_err-params.field-0.0 c.in_err-params.ensures.err)

pub returns-in_err-params-clause-kept : goal.returns-in_err-params-clause-kept
returns-in_err-params-clause-kept g c =
    let out = c.loop-number.out.items in
    c.sent_in_turn.ensures.kept Text c.args.query.now.sql
    (first_sets c.loop-number.number (g.S.SetMaker.given c.args.sets.now)) 0 c.args.limit
    c.args.out.now.items out out
    (c.loop-number.invariant.1 0) (take_all _ out (omega arith))

pub returns-in_err-put_query-clause-err : goal.returns-in_err-put_query-clause-err
returns-in_err-put_query-clause-err g c =
    let p = err_from_is_err_and c.from_residual-in_err-put_query.result c.from_residual-in_err-put_query.ensures.1 in
    rw (p.1, p.2) (λ id.
    (c.sent_in_turn.ensures.refused_more Text tt c.args.query.now.sql
    (g.S.SetMaker.given c.args.sets.now) id c.args.limit c.loop-number.number
    c.args.out.now.items c.loop-number.out.items
    (λ names. given_by names c.in_ok-params.params) c.in_ok-params.ensures.ok (c.loop-number.invariant.1 id)
    c.in_err-put_query.field-0.0 (c.in_err-put_query.ensures.err id)).0)

pub returns-in_err-put_query-clause-kept : goal.returns-in_err-put_query-clause-kept
returns-in_err-put_query-clause-kept g c =
    c.sent_in_turn.ensures.kept Text c.args.query.now.sql
    (first_sets c.loop-number.number (g.S.SetMaker.given c.args.sets.now)) 0 c.args.limit
    c.args.out.now.items c.loop-number.out.items c.put_query.new.out.items
    (c.loop-number.invariant.1 0) c.put_query.ensures.kept

pub loop-number-preserved : goal.loop-number-preserved
loop-number-preserved g c = (
  c.made_in_turn.ensures.more (g.S.SetMaker.given c.args.sets.now) c.loop-number.number
      c.in_ok-params.params c.in_ok-params.ensures.ok c.loop-number.invariant.0,
  λ id. c.sent_in_turn.ensures.more Text tt c.args.query.now.sql
      (g.S.SetMaker.given c.args.sets.now) id c.args.limit c.loop-number.number c.args.out.now.items
      c.loop-number.out.items c.put_query.new.out.items
      (λ names. given_by names c.in_ok-params.params) c.in_ok-params.ensures.ok
      (c.loop-number.invariant.1 id) (c.in_ok-put_query.ensures.ok id),
)

pub returns-clause-ok : goal.returns-clause-ok
returns-clause-ok g c = λ id.
    c.sent_in_turn.ensures.all Text c.args.query.now.sql (g.S.SetMaker.given c.args.sets.now) id
    c.args.limit c.loop-number.number c.args.out.now.items c.loop-number.out.items
    (λ names. omega (arith, c.len-number-end.ensures names)) (c.loop-number.invariant.1 id)

pub returns-clause-kept : goal.returns-clause-kept
returns-clause-kept g c =
    let out = c.loop-number.out.items in
    c.sent_in_turn.ensures.kept Text c.args.query.now.sql
    (first_sets c.loop-number.number (g.S.SetMaker.given c.args.sets.now)) 0 c.args.limit
    c.args.out.now.items out out
    (c.loop-number.invariant.1 0) (take_all _ out (omega arith))
