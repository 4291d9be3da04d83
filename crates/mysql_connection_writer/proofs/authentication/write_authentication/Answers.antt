use Rattle.std.proofs.Common.{sym}
use Rattle.mysql_authentication.specs.Views.{authentication_view}
use Rattle.mysql_connection_writer.proofs.InLogin.{authentication_written, no_authentication}
use Rattle.mysql_connection_writer.proofs.authentication.write_authentication.Goals as goal

pub returns-in-Some : goal.returns-in-Some
returns-in-Some c =
    authentication_written c.in-Some.exchange c.args.state.now.standing c.capabilities.result
    (authentication_view c.args.said.now) c.args.out.now.items c.put_in_exchange.new.out.items
    c.put_in_exchange.result (sym c.in-Some.ensures) c.capabilities.ensures c.put_in_exchange.ensures

pub returns-in-None : goal.returns-in-None
returns-in-None c =
    no_authentication c.args.state.now.standing (authentication_view c.args.said.now) c.args.out.now.items
    (sym c.in-None.ensures)
