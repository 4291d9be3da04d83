use Rattle.std.proofs.Common.{◌-◌, length}
use Rattle.mysql_connection_machine.proofs.PutPackets.{GoesOn}
use Rattle.mysql_connection_machine.proofs.connection.Connection.put_packets.Given as goal

abbrev pub invariant-packets : goal.invariant-packets
invariant-packets l = GoesOn l.fn.self l.side l.packets l.fn.out.items l.used l.self l.out.items

abbrev pub decreases-packets : goal.decreases-packets
decreases-packets l = length l.packets - l.used
