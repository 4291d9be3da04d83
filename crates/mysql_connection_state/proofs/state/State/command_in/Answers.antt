use Rattle.std.proofs.Common.{Option, subst}
use Rattle.std.specs.Prelude.{IfOk}
use Rattle.std.specs.Option.{option_copied}
use Rattle.mysql_commands.specs.Views.{HasUnclear}
use Rattle.mysql_connection_rules.specs.Steps as steps
use Rattle.mysql_const.specs.declared.capabilities.Capabilities.{Capabilities}
use Rattle.mysql_executions.specs.InForce.{InForce}
use Rattle.mysql_connection_state.proofs.state.State.command_in.Goals as goal

pub returns-clause-unclear : goal.returns-clause-unclear
returns-clause-unclear c =
    let s = c.args.self.now.standing in
    let payload = c.args.payload.now in
    subst (λ (p : Option InForce). IfOk c.read.result
    (λ command. HasUnclear s.capabilities p payload command))
    c.parameters_in_question-parameters.ensures
    (subst (λ (k : Capabilities). IfOk c.read.result
    (λ command. HasUnclear k (option_copied c.parameters_in_question-parameters.result) payload
    command))
    c.capabilities.ensures c.read.ensures.unclear)
