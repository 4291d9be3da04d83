use Rattle.std.proofs.Common.{ap, refl, sym, ◌∙◌}
use Rattle.mysql_authentication.specs.Readings.{response_at}
use Rattle.mysql_const.specs.declared.capabilities.Capabilities.{Capabilities}
use Rattle.mysql_connection_rules.specs.Events as events
use Rattle.mysql_connection_rules.specs.Steps.{of_login}
use Rattle.mysql_connection_state.specs.Peeks.{saying}
use Rattle.mysql_connection_state.proofs.Phases.{answer_said, command_said, gives_so, greeting_said, nothing_said}
use Rattle.mysql_connection_state.proofs.Phases.{response_said}
use Rattle.mysql_connection_state.proofs.Unclear.{gives_none, saying_none}
use Rattle.mysql_connection_state.proofs.peeking.peek_plain.Goals as goal

pub returns-in-Greeting-clause-peeks : goal.returns-in-Greeting-clause-peeks
returns-in-Greeting-clause-peeks c =
    gives_so _ _ c.peek_greeting.result
    (greeting_said c.args.state.now.standing c.args.payload.now c.requires (sym c.in-Greeting.ensures))
    c.peek_greeting.ensures

pub returns-in-Response-clause-peeks : goal.returns-in-Response-clause-peeks
returns-in-Response-clause-peeks c =
    gives_so _ _ c.peek_response.result
    (response_said c.args.state.now.standing c.args.payload.now c.requires (sym c.in-Response.ensures)
    ∙ ap (λ (x : Capabilities). saying events.Response (of_login (response_at x.protocol.0 c.args.payload.now)))
    (sym c.offered.ensures))
    c.peek_response.ensures

pub returns-in-Answer-clause-peeks : goal.returns-in-Answer-clause-peeks
returns-in-Answer-clause-peeks c =
    gives_so _ _ c.peek_answer.result
    (answer_said c.args.state.now.standing c.args.payload.now c.requires (sym c.in-Answer.ensures))
    c.peek_answer.ensures

pub returns-in-Command-clause-peeks : goal.returns-in-Command-clause-peeks
returns-in-Command-clause-peeks c =
    gives_so _ _ c.peek_command.result
    (command_said c.args.state.now.standing c.args.payload.now c.requires (sym c.in-Command.ensures))
    c.peek_command.ensures.reads

pub returns-in-Over-clause-peeks : goal.returns-in-Over-clause-peeks
returns-in-Over-clause-peeks c =
    nothing_said c.args.state.now.standing c.args.payload.now c.in-Over.field-0 c.requires
    (sym c.in-Over.ensures)

pub returns-in-Greeting-clause-unclear : goal.returns-in-Greeting-clause-unclear
returns-in-Greeting-clause-unclear c =
    gives_none c.args.state.now.standing c.args.payload.now c.peek_greeting.result _
    (saying_none events.Greeting _ (λ x. refl))
    c.peek_greeting.ensures

pub returns-in-Response-clause-unclear : goal.returns-in-Response-clause-unclear
returns-in-Response-clause-unclear c =
    gives_none c.args.state.now.standing c.args.payload.now c.peek_response.result _
    (saying_none events.Response _ (λ x. refl))
    c.peek_response.ensures

pub returns-in-Answer-clause-unclear : goal.returns-in-Answer-clause-unclear
returns-in-Answer-clause-unclear c =
    gives_none c.args.state.now.standing c.args.payload.now c.peek_answer.result _ refl c.peek_answer.ensures
