use Rattle.mysql_wire.proofs.Joins.{Joined}
use Rattle.mysql_wire.proofs.packet.join.Given as goal

abbrev pub invariant-chunks : goal.invariant-chunks
invariant-chunks l = Joined l.bytes l.counter l.payload.items l.rest
