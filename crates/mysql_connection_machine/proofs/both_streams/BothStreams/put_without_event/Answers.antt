use Rattle.std.proofs.Common.{◌≤◌, ℕ, length, refl, subst}
use Rattle.mysql_connection_rules.specs.Streams.{limit_of}
use Rattle.mysql_connection_machine.specs.Machines.{LendingWorld}
use Rattle.mysql_connection_machine.proofs.Commands.{command_put}
use Rattle.mysql_connection_machine.proofs.both_streams.BothStreams.put_without_event.Goals as goal

pub returns-in-Ok : goal.returns-in-Ok
returns-in-Ok c =
    command_put c.payloads_are_in_turn.ensures c.args.self.now c.put_command.new.self c.args.side c.args.payload.now
    c.args.out.now.items c.put_command.new.out.items c.in-Ok.field-0 (c.if-not-awaits_command_of.ensures refl)
    (subst (λ (r : LendingWorld). length c.args.payload.now ≤ limit_of c.args.side r.world.limits) c.self.view_is
    (subst (λ (n : ℕ). length c.args.payload.now ≤ n) c.limit_of.ensures c.if-payload-limit_of.false))
    c.in-Ok.ensures
