use Rattle.std.proofs.Common.{ℕ, List, subst, sym}
use Rattle.mysql_connection_rules.specs.Standing.{Standing}
use Rattle.mysql_connection_rules.specs.Steps.{execution_of, id_in_question, statement_in_question}
use Rattle.mysql_connection_state.specs.Follows.{Goes, after_said}
use Rattle.mysql_connection_state.specs.Views.{ConnectionState}
use Rattle.mysql_connection_state.proofs.state.State.pass_execute.Goals as goal

pub returns : goal.returns
returns c = λ is.
    let old : ConnectionState = c.args.self.now in
    let goes : Standing → Type 0 = λ after. Goes old after c.args.room c.pass_unread.result c.pass_unread.new.self in
    let body = c.args.body.now in
    subst (λ (p : List ℕ). goes (after_said old.standing p)) (sym is)
    (subst (λ (p : List ℕ). goes (execution_of 0x17 body (id_in_question old.standing.statements p)
    (statement_in_question old.standing.statements p) old.standing)) is c.pass_unread.ensures)
