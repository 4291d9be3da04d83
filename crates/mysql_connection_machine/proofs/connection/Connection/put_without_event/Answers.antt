use Rattle.std.proofs.Common.{◌≡◌, None, ap, refl, subst, true}
use Rattle.mysql_connection_modes.specs.Modes.{is_plain}
use Rattle.mysql_connection_rules.specs.Standing as phases
use Rattle.mysql_connection_machine.specs.Machines.{Machine}
use Rattle.mysql_connection_machine.proofs.Commands.{command_known}
use Rattle.mysql_connection_machine.proofs.connection.Connection.put_without_event.Goals as goal

pub returns-clause-mode : goal.returns-clause-mode
returns-clause-mode c =
    let awaits = c.if-not-awaits_plain_command.ensures refl in
    command_known c.args.self.now (record {
      world = c.put_without_event.new.self.world;
      failure = None;
      row = None;
      mode = c.mode_behind_payload-self-inside.result;
    }) c.args.payload.now c.state-2.result.now.standing c.self.inside.mode
    (subst (λ (m : Machine). m.world.standing.phase ≡ phases.Command) c.self.view_is awaits.0.phase)
    (ap (λ (m : Machine). m.mode) c.self.view_is) c.state-2.ensures
    (c.mode_behind_payload-self-inside.ensures c.args.self.now.world.standing
    (subst (λ (m : Machine). is_plain m.world.standing c.args.payload.now ≡ true) c.self.view_is awaits.1))
