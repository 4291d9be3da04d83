use Rattle.std.proofs.Common.{◌≡◌, ℕ, List, drop, true, ap, sym, ◌∙◌}
use Rattle.mysql_wire.specs.FirstPacket.{Whole}
use Rattle.mysql_connection_machine.proofs.PutPackets.{due_unfailed, put_first_by}
use Rattle.mysql_connection_machine.specs.PuttingPayloads.{is_due_of}
use Rattle.mysql_connection_machine.proofs.connection.Connection.put_first_packet.Goals as goal

pub returns-in_ok-put_without_event-in-Whole : goal.returns-in_ok-put_without_event-in-Whole
returns-in_ok-put_without_event-in-Whole c =
    let due : is_due_of c.args.self.now c.args.side ≡ true = sym c.is_due.ensures ∙ c.if-not-is_due.false in
    let going = due_unfailed c.args.self.now c.args.side due in
    let found = rw c.in-Whole.is at c.in_ok-first_packet.ensures.found in
    let within = rw c.in-Whole.is at c.in_ok-first_packet.ensures.within in
    put_first_by c.packets_take_bytes.ensures c.args.self.now c.put_without_event.new.self
    c.args.side c.args.packets.now
    c.args.out.now.items c.put_without_event.new.out.items c.as_slice.result.now
    c.limit_of-limit.result c.number_of.result
    c.in-Whole.used c.in-Whole.next c.limit_of-limit.ensures c.number_of.ensures
    (found ∙ ap (λ (p : List ℕ). Whole p c.in-Whole.next (drop c.in-Whole.used c.args.packets.now))
    (sym c.as_slice.ensures.value))
    within going c.in_ok-put_without_event-in-Whole.ensures.mode c.in_ok-put_without_event-in-Whole.ensures.puts
