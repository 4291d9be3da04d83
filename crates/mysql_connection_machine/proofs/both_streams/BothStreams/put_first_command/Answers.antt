use Rattle.std.proofs.Common.{◌≡◌, ap, refl, subst, sym, true}
use Rattle.mysql_connection_modes.specs.Modes.{is_plain}
use Rattle.mysql_connection_machine.specs.Machines.{LendingWorld}
use Rattle.mysql_connection_machine.proofs.Commands.{first_command}
use Rattle.mysql_connection_machine.proofs.both_streams.BothStreams.put_first_command.Goals as goal

pub returns-in-Ok : goal.returns-in-Ok
returns-in-Ok c =
    first_command c.payloads_are_in_turn.ensures c.args.self.now c.put_packet.new.self
    c.args.packets.now c.args.out.now.items
    c.put_packet.new.out.items c.in_ok-payload.payload.now c.self.inside.limits.client
    c.number_of.result c.in-Ok.field-0
    (subst (λ (l : LendingWorld). is_plain l.world.standing c.in_ok-payload.payload.now ≡
    true) c.self.view_is (sym c.if-not-is_plain.ensures))
    (ap (λ (l : LendingWorld). l.world.limits.client) c.self.view_is) c.number_of.ensures
    (c.if-not-awaits_command.ensures.phase refl) (c.if-not-awaits_command.ensures.free refl) c.if-payload-limit.false
    c.in_ok-payload.ensures c.in-Ok.ensures
