use Rattle.std.proofs.Common.{◌≡◌, ◌-◌, ℕ, List, Some, ap, drop, refl, subst, sym, take, true, ◌∙◌}
use Rattle.std.specs.Prelude.{option_map}
use Rattle.mysql_connection_modes.specs.Modes.{BehindCommand, is_plain}
use Rattle.mysql_connection_state.specs.Follows.{command_said}
use Rattle.mysql_connection_machine.specs.Inside.{machine_inside}
use Rattle.mysql_connection_machine.specs.Machines.{Machine, failure_view}
use Rattle.mysql_connection_machine.proofs.Commands.{MachineKnows, behind_header, command_known, machine_put}
use Rattle.mysql_connection_machine.proofs.connection.Connection.put_first_command.Goals as goal

pub returns-in_ok-used-in-None-Client : goal.returns-in_ok-used-in-None-Client
returns-in_ok-used-in-None-Client c =
    let old : Machine = machine_inside c.self.inside in
    let mode = c.mode_behind_payload-self-inside.result in
    let new : Machine = record {
      world = c.put_first_command.new.self.world;
      failure = option_map failure_view c.self.inside.fault;
      row = c.put_first_command.new.self.row;
      mode = mode;
    } in
    let packets = c.args.packets.now in
    let used = c.in_ok-used-in-None-Client.used in
    let s = old.world.standing in
    let put = c.in_ok-used-in-None-Client.ensures in
    let knows : MachineKnows old packets (Some used) new = λ payload stands plain phase.
    let there : payload ≡ take (used - 4) (drop 4 packets) = stands ∙ behind_header packets used put.header in
    command_known old new payload c.state.result.now.standing c.self.inside.mode phase refl c.state.ensures
    (subst (λ (p : List ℕ). BehindCommand c.state.result.now.standing (command_said s p) c.self.inside.mode mode)
    (sym there)
    (c.mode_behind_payload-self-inside.ensures s (subst (λ (p : List ℕ). is_plain s p ≡ true) there plain))) in
    rw (← c.self.view_is) (machine_put old new c.args.side packets c.args.out.now.items
    c.put_first_command.new.out.items (Some used) c.in-None-Client.is-1
    (ap (option_map failure_view) c.in-None-Client.is-0) refl knows put)
