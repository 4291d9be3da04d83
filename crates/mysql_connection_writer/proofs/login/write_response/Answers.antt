use Rattle.std.proofs.Common.{◌∙◌, sym}
use Rattle.mysql_authentication.specs.Views.{response_event_view}
use Rattle.mysql_connection_writer.proofs.InLogin.{no_response, response_written}
use Rattle.mysql_connection_writer.proofs.login.write_response.Goals as goal

pub returns-then-awaits_response : goal.returns-then-awaits_response
returns-then-awaits_response c =
    response_written c.args.state.now.standing c.offered.result (response_event_view c.args.said.now)
    c.args.out.now.items c.put_answer.new.out.items c.put_answer.result
    (sym c.awaits_response.ensures ∙ c.if-awaits_response.true) c.offered.ensures c.put_answer.ensures

pub returns-else-awaits_response : goal.returns-else-awaits_response
returns-else-awaits_response c =
    no_response c.args.state.now.standing (response_event_view c.args.said.now) c.args.out.now.items
    (sym c.awaits_response.ensures ∙ c.if-awaits_response.false)
