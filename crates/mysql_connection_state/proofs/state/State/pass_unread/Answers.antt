use Rattle.std.proofs.Common.{◌≡◌, ℕ, Option, subst}
use Rattle.std.specs.Option.{option_and_then}
use Rattle.mysql_connection_rules.specs.Steps.{execution_of, id_in_question}
use Rattle.mysql_connection_statements.specs.Statements.{statement_at}
use Rattle.mysql_connection_state.specs.Follows.{Goes}
use Rattle.mysql_connection_state.specs.Views.{ConnectionState}
use Rattle.mysql_connection_state.proofs.state.State.pass_unread.Goals as goal

pub returns : goal.returns
returns c =
    let old : ConnectionState = c.args.self.now in
    let id : c.id_in_question-id.result ≡ id_in_question old.standing.statements c.args.payload.now =
    subst (λ (s : ConnectionState). c.id_in_question-id.result ≡
    id_in_question s.standing.statements c.args.payload.now)
    c.self.view_is c.id_in_question-id.ensures in
    let after : Option ℕ → Type 0 = λ q. Goes old
    (execution_of c.args.number c.args.body.now q
    (option_and_then (statement_at old.standing.statements) q) old.standing)
    c.args.room c.pass_execution.result c.pass_execution.new.self in
    subst (λ (q : Option ℕ). after q) id c.pass_execution.ensures
