use Rattle.std.proofs.Common.{◌∙◌, sym}
use Rattle.mysql_authentication.specs.Views.{greeting_view}
use Rattle.mysql_connection_writer.proofs.InLogin.{greeting_written, no_greeting}
use Rattle.mysql_connection_writer.proofs.login.write_greeting.Goals as goal

pub returns-then-awaits_greeting : goal.returns-then-awaits_greeting
returns-then-awaits_greeting c =
    greeting_written c.args.state.now.standing (greeting_view c.args.said.now) c.args.out.now.items
    c.put_first.new.out.items c.put_first.result (sym c.awaits_greeting.ensures ∙ c.if-awaits_greeting.true)
    c.put_first.ensures

pub returns-else-awaits_greeting : goal.returns-else-awaits_greeting
returns-else-awaits_greeting c =
    no_greeting c.args.state.now.standing (greeting_view c.args.said.now) c.args.out.now.items
    (sym c.awaits_greeting.ensures ∙ c.if-awaits_greeting.false)
