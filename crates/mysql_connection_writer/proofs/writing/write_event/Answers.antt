use Rattle.std.proofs.Common.{◌≡◌, refl, subst}
use Rattle.mysql_connection_rules.specs.Events.{Event}
use Rattle.mysql_connection_rules.specs.Events as events
use Rattle.mysql_connection_state.specs.Views.{event_view}
use Rattle.mysql_connection_writer.specs.Writes.{WritesEvent}
use Rattle.mysql_server_packets.specs.Views.{server_error_view}
use Rattle.mysql_connection_writer.proofs.writing.write_event.Goals as goal

pub returns-in-Farewell : goal.returns-in-Farewell
returns-in-Farewell c =
    let same : events.Farewell (server_error_view c.in-Farewell.error) ≡ event_view c.args.event.now =
    rw c.in-Farewell.is refl in
    subst (λ (event : Event). WritesEvent c.args.state.now.standing event c.args.out.now.items
    c.write_farewell.new.out.items c.write_farewell.result) same
    (c.write_farewell.ensures c.args.state.now.standing)
