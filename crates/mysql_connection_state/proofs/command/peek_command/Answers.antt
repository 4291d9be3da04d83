use Rattle.mysql_connection_rules.specs.Steps as steps
use Rattle.mysql_connection_state.proofs.command.peek_command.Goals as goal

pub returns-clause-unclear : goal.returns-clause-unclear
returns-clause-unclear c =
    let s = c.args.state.now.standing in
    let payload = c.args.payload.now in
    c.in_ok-command-2.ensures.unclear s payload
    (c.in_ok-command.ensures.unclear s.capabilities
    (steps.parameters_in_question s.statements payload) payload
    c.in_ok-command_in.ensures.unclear)
