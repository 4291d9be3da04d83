use Rattle.std.proofs.Common.{◌≤◌, ap, subst}
use Rattle.mysql_connection_rules.specs.Standing.{Standing, kept}
use Rattle.mysql_connection_state.specs.Views.{event_view}
use Rattle.mysql_connection_writer.specs.Writes.{Says}
use Rattle.mysql_connection_machine.specs.Machines.{lending_none}
use Rattle.mysql_connection_machine.proofs.both_streams.BothStreams.follow.Goals as goal

pub returns-in-Ok : goal.returns-in-Ok
returns-in-Ok c =
    let said : Says c.self.inside.state.standing (event_view c.args.event.now) c.args.payload.now =
    rw (← c.self.view_is) at c.requires.said in
    let follows = c.in-Ok.ensures said.0 said.1 in
    rw (← c.self.view_is) (
      said.0,
      said.1,
      subst (λ n. kept said.0 ≤ n) c.room_to_keep-room.ensures follows.1,
      ap (λ (s : Standing). lending_none (record {
        limits = c.self.inside.limits;
        standing = s;
        unread = record {
          client = c.self.inside.client.stream;
          server = c.self.inside.server.stream;
        };
      })) follows.0,
    )
