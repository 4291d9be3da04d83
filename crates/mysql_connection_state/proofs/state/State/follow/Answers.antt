use Rattle.std.proofs.Common.{subst}
use Rattle.mysql_authentication.specs.Views.{authentication_view, greeting_view, response_event_view}
use Rattle.mysql_commands.specs.Views.{command_view}
use Rattle.mysql_reply_events.specs.Views.{event_view as reply_view}
use Rattle.mysql_connection_rules.specs.Events.Event.{Answer, Asked, Authentication, FileData, Greeting, Replied}
use Rattle.mysql_connection_rules.specs.Events.Event.{Response}
use Rattle.mysql_connection_rules.specs.Standing.{Standing}
use Rattle.mysql_connection_rules.specs.Steps.{after_authentication, after_command, after_greeting, after_response}
use Rattle.mysql_connection_state.proofs.GoingOn.{authentication_leads, follows_if, follows_one, none_leads}
use Rattle.mysql_connection_state.proofs.Leading.{step_leads}
use Rattle.mysql_connection_state.specs.Follows.{Goes}
use Rattle.mysql_connection_state.proofs.state.State.follow.Goals as goal

pub returns-in-Greeting : goal.returns-in-Greeting
returns-in-Greeting c =
    let old = c.args.self.now in
    let said = greeting_view c.deref.result.now in
    rw (c.in-Greeting.is, ← c.deref.ensures) (follows_one old c.pass_greeting.new.self (Greeting said)
    c.args.payload.now c.args.room c.pass_greeting.result (after_greeting old.standing said)
    (λ after leads. step_leads old.standing c.args.payload.now (Greeting said) after leads) c.pass_greeting.ensures)

pub returns-in-Response : goal.returns-in-Response
returns-in-Response c =
    let old = c.args.self.now in
    let said = response_event_view c.deref-in-Response.result.now in
    rw (c.in-Response.is, ← c.deref-in-Response.ensures) (follows_one old c.pass_response.new.self (Response said)
    c.args.payload.now c.args.room c.pass_response.result (after_response old.standing said)
    (λ after leads. step_leads old.standing c.args.payload.now (Response said) after leads) c.pass_response.ensures)

pub returns-in-Some : goal.returns-in-Some
returns-in-Some c =
    let old = c.args.self.now in
    let said = authentication_view c.deref-in-Some.result.now in
    rw (c.in-Authentication.is, ← c.deref-in-Some.ensures)
    (follows_one old c.pass_authentication.new.self (Authentication said)
    c.args.payload.now c.args.room c.pass_authentication.result
    (after_authentication c.in-Some.exchange old.standing said)
    (λ after leads. authentication_leads old.standing said c.args.payload.now c.in-Some.exchange
    after c.in-Some.ensures leads)
    c.pass_authentication.ensures)

pub returns-in-None : goal.returns-in-None
returns-in-None c =
    let old = c.args.self.now in
    rw c.in-Authentication.is
    (λ after leads. absurd (none_leads old.standing
    (authentication_view c.in-Authentication.said.value)
    c.args.payload.now after c.in-None.ensures leads))

pub returns-in-Command : goal.returns-in-Command
returns-in-Command c =
    let old = c.args.self.now in
    let said = command_view c.deref-in-Command.result.now in
    rw (c.in-Command.is, ← c.deref-in-Command.ensures) (follows_one old c.pass_command.new.self (Asked said)
    c.args.payload.now c.args.room c.pass_command.result (after_command old.standing c.args.payload.now said)
    (λ after leads. step_leads old.standing c.args.payload.now (Asked said) after leads) c.pass_command.ensures)

pub returns-in-Answer : goal.returns-in-Answer
returns-in-Answer c =
    let old = c.args.self.now in
    rw c.in-Answer.is (follows_if old c.pass_answer.new.self (Answer c.in-Answer.field-0) c.args.payload.now c.args.room
    c.pass_answer.result c.pass_answer.ensures.err (λ after leads.
    let found = step_leads old.standing c.args.payload.now (Answer c.in-Answer.field-0) after leads in
    let Q : Standing → Type 0 = λ after. Goes old after c.args.room c.pass_answer.result c.pass_answer.new.self in
    subst Q found.same (c.pass_answer.ensures.goes found.exchange found.due)))

pub returns-in-Reply : goal.returns-in-Reply
returns-in-Reply c =
    let old = c.args.self.now in
    let said = reply_view c.deref-in-Reply.result.now in
    rw (c.in-Reply.is, ← c.deref-in-Reply.ensures)
    (follows_if old c.pass_reply.new.self (Replied said) c.args.payload.now c.args.room
    c.pass_reply.result c.pass_reply.ensures.err (λ after leads.
    let found = step_leads old.standing c.args.payload.now (Replied said) after leads in
    let Q : Standing → Type 0 = λ after. Goes old after c.args.room c.pass_reply.result c.pass_reply.new.self in
    subst Q found.same (c.pass_reply.ensures.goes found.reply found.next found.due found.reads)))

pub returns-in-FileData : goal.returns-in-FileData
returns-in-FileData c =
    let old = c.args.self.now in
    rw c.in-FileData.is (follows_if old c.pass_file_data.new.self (FileData c.in-FileData.field-0)
    c.args.payload.now c.args.room
    c.pass_file_data.result c.pass_file_data.ensures.err (λ after leads.
    let found = step_leads old.standing c.args.payload.now (FileData c.in-FileData.field-0) after leads in
    let Q : Standing → Type 0 = λ after. Goes old after c.args.room c.pass_file_data.result c.pass_file_data.new.self in
    subst Q found.same (c.pass_file_data.ensures.goes found.reply found.next found.due found.reads)))
