use Rattle.mysql_connection_machine.proofs.PutPackets.{goes_on}
use Rattle.mysql_connection_machine.proofs.connection.Connection.put_packets.Goals as goal

pub packets-preserved : goal.packets-preserved
packets-preserved c =
    goes_on c.args.self.now c.packets.self c.put_first.new.self c.args.side c.args.packets.now c.args.out.now.items
    c.packets.out.items c.put_first.new.out.items c.packets.used c.in-Ok-Some.taken c.packets.invariant
    (rw c.in-Ok-Some.field-0-is at c.in-Ok-Some.ensures)
