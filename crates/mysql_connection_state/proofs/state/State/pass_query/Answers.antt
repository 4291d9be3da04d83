use Rattle.std.proofs.Common.{List, ℕ, subst, sym}
use Rattle.mysql_connection_rules.specs.Standing.{Standing}
use Rattle.mysql_connection_state.specs.Follows.{Goes, after_said}
use Rattle.mysql_connection_state.specs.Views.{ConnectionState}
use Rattle.mysql_connection_state.proofs.state.State.pass_query.Goals as goal

pub returns : goal.returns
returns c = λ is.
    let old : ConnectionState = c.args.self.now in
    let goes : Standing → Type 0 = λ after. Goes old after c.args.room c.pass_text.result c.pass_text.new.self in
    subst (λ (p : List ℕ). goes (after_said old.standing p)) (sym is) c.pass_text.ensures
