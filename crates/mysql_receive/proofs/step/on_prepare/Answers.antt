use Rattle.std.proofs.Common.{sym, ◌∙◌}
use Rattle.std.proofs.lemmas.Result.{err_from_is_err_and}
use Rattle.mysql_receive.specs.Views.{statement_view, state_of}
use Rattle.mysql_receive.proofs.Stepping.{behind_prepare}
use Rattle.mysql_receive.proofs.step.on_prepare.Goals as goal

pub returns-in_err-sets-clause-judged : goal.returns-in_err-sets-clause-judged
returns-in_err-sets-clause-judged c =
    let p = err_from_is_err_and c.from_residual.result c.from_residual.ensures.1 in
    rw (p.1, p.2) (c.in_err-sets.ensures (state_of c.args.state.now))

pub returns-clause-ok : goal.returns-clause-ok
returns-clause-ok c =
    let told = c.in_ok-sets.ensures (state_of c.args.state.now) in
    c.prepare.ensures ∙ sym (behind_prepare (statement_view c.args.statement.now)
    (state_of c.args.state.now) c.args.body.now told.0)
