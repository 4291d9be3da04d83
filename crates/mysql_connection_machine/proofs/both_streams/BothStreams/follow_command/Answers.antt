use Rattle.std.proofs.Common.{◌≡◌, ◌≤◌, ◌<◌, ap, refl, subst}
use Rattle.mysql_connection_rules.specs.Standing as phases
use Rattle.mysql_connection_rules.specs.Standing.{Standing, kept}
use Rattle.mysql_connection_state.specs.Follows.{after_said}
use Rattle.mysql_connection_machine.specs.Machines.{lending_none}
use Rattle.mysql_connection_machine.proofs.Commands.{command_leads}
use Rattle.mysql_connection_machine.proofs.both_streams.BothStreams.follow_command.Goals as goal

pub returns-in-Ok : goal.returns-in-Ok
returns-in-Ok c =
    let phase : c.self.inside.state.standing.phase ≡ phases.Command = rw (← c.self.view_is) at c.requires in
    let after = after_said c.self.inside.state.standing c.args.payload.now in
    let goes = c.in-Ok.ensures in
    rw (← c.self.view_is) (
      after,
      command_leads c.self.inside.state.standing c.args.payload.now phase,
      subst (λ n. kept after ≤ n) c.room_to_keep-room.ensures goes.1,
      ap (λ (s : Standing). lending_none (record {
        limits = c.self.inside.limits;
        standing = s;
        unread = record {
          client = c.self.inside.client.stream;
          server = c.self.inside.server.stream;
        };
      })) goes.0,
    )

pub returns-in-Err-Held : goal.returns-in-Err-Held
returns-in-Err-Held c =
    let phase : c.self.inside.state.standing.phase ≡ phases.Command = rw (← c.self.view_is) at c.requires in
    let after = after_said c.self.inside.state.standing c.args.payload.now in
    let held = rw c.in-Err-Held.field-0-is at c.in-Err-Held.ensures in
    rw (← c.self.view_is) (
      rw held.0 refl,
      (
        after,
        command_leads c.self.inside.state.standing c.args.payload.now phase,
        subst (λ n. n < kept after) c.room_to_keep-room.ensures held.1,
      ),
    )
