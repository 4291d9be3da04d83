use Rattle.std.proofs.Common.{◌≡◌, ◌-◌, ◌++◌, ◌∙◌, ℕ, List, Ok, Err, length, drop, ap, rules, subst}
use Rattle.mysql_wire.specs.Framing.{framing, number_after}
use Rattle.mysql_connection_machine.specs.Machines.{LendingWorld}
use Rattle.mysql_connection_machine.specs.PuttingCommands.{command_event}
use Rattle.mysql_connection_machine.specs.Writing.{GoesOnBehind}
use Rattle.mysql_connection_machine.proofs.Commands.{packet_dropped, packet_framed, packet_goes, packet_refused}
use Rattle.mysql_connection_machine.proofs.InPlace.{front_of}
use Rattle.mysql_connection_machine.proofs.both_streams.BothStreams.put_packet.Goals as goal

pub returns-in-Ok : goal.returns-in-Ok
returns-in-Ok c =
    let before = c.args.out.now.items in
    let held = c.extend_from_slice.new.self.items in
    let payload = drop 4 c.args.packet.now in
    let is : held ≡ before ++ c.args.packet.now = c.in_ok-extend_from_slice.ensures.items in
    let at : c.len-start.result ≡ length before = search rules in
    let number : c.number.result ≡ c.args.self.now.world.standing.number =
    c.number.ensures ∙ ap (λ (l : LendingWorld). l.world.standing.number) c.self.view_is in
    let framed : c.frame_in_place.new.out.items ≡ before ++ framing payload c.args.self.now.world.standing.number =
    packet_framed before c.args.packet.now held c.frame_in_place.new.out.items c.len-start.result
    c.number.result is at c.in_ok-next.ensures.ok
    ∙ ap (λ (n : ℕ). before ++ framing payload n) number in
    let next : c.in_ok-next.next ≡ number_after payload c.args.self.now.world.standing.number =
    c.in_ok-next.ensures.next
    ∙ ap (λ (p : List ℕ). number_after p c.number.result)
    (packet_dropped before c.args.packet.now held c.len-start.result is at)
    ∙ ap (λ (n : ℕ). number_after payload n) number in
    let long : c.len.result ≡ length c.frame_in_place.new.out.items = search rules in
    packet_goes c.args.self.now c.go_on_behind_command.new.self
    (command_event c.args.self.now.world.standing payload) payload before
    c.frame_in_place.new.out.items c.in_ok-next.next (c.len.result - c.len-start.result) c.in-Ok.field-0 framed next
    (ap (λ (n : ℕ). n - c.len-start.result) long ∙ ap (λ (n : ℕ). length c.frame_in_place.new.out.items - n) at)
    (subst (λ (p : List ℕ). GoesOnBehind c.args.self.now
    (command_event c.args.self.now.world.standing p) p c.in_ok-next.next
    (c.len.result - c.len-start.result) (Ok c.in-Ok.field-0) c.go_on_behind_command.new.self)
    c.behind.ensures c.in-Ok.ensures)

pub returns : goal.returns
returns c =
    let before = c.args.out.now.items in
    let held = c.extend_from_slice.new.self.items in
    let payload = drop 4 c.args.packet.now in
    let is : held ≡ before ++ c.args.packet.now = c.in_ok-extend_from_slice.ensures.items in
    let at : c.len-start.result ≡ length before = search rules in
    let framed = packet_framed before c.args.packet.now held c.frame_in_place.new.out.items
    c.len-start.result c.number.result is at
    c.in_ok-next.ensures.ok in
    let left = c.truncate.ensures.items
    ∙ front_of before (framing payload c.number.result) c.frame_in_place.new.out.items c.len-start.result framed at in
    packet_refused c.args.self.now c.go_on_behind_command.new.self
    (command_event c.args.self.now.world.standing payload) payload before
    c.truncate.new.self.items c.in_ok-next.next (c.len.result - c.len-start.result) c.in-Err.refusal left
    (subst (λ (p : List ℕ). GoesOnBehind c.args.self.now
    (command_event c.args.self.now.world.standing p) p c.in_ok-next.next
    (c.len.result - c.len-start.result) (Err c.in-Err.refusal) c.go_on_behind_command.new.self)
    c.behind.ensures c.in-Err.ensures)
