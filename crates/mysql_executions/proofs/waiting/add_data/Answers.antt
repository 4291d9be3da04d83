use Rattle.std.proofs.Common.{◌∙◌}
use Rattle.mysql_executions.proofs.Kept.{more_behind, on_err, on_ok, stays_behind}
use Rattle.mysql_executions.proofs.waiting.add_data.Goals as goal

pub returns-in-Some-clause-ok : goal.returns-in-Some-clause-ok
returns-in-Some-clause-ok c =
    on_ok c.append.result (λ grew. (c.get_mut.follows.holds c.append.new.held).0
    ∙ more_behind c.args.waiting.now.entries c.args.place c.in-Some.held.now c.args.bytes.now
    c.append.new.held c.in-Some.ensures.ordered c.in-Some.ensures.value grew)
    c.append.ensures.ok

pub returns-in-Some-clause-err : goal.returns-in-Some-clause-err
returns-in-Some-clause-err c =
    on_err c.append.result (λ stays. (c.get_mut.follows.holds c.append.new.held).0
    ∙ stays_behind c.args.waiting.now.entries c.args.place c.in-Some.held.now c.append.new.held
    c.in-Some.ensures.value stays) c.append.ensures.err
