use Rattle.mysql_ok_packets.specs.OwnLaws.{eof_own, ok_packet_own, terminator_own}
use Rattle.mysql_ok_packets.proofs.laws.packets_are_their_own.Goals as goal

pub returns-clause-ok : goal.returns-clause-ok
returns-clause-ok c = ok_packet_own

pub returns-clause-terminator : goal.returns-clause-terminator
returns-clause-terminator c = terminator_own

pub returns-clause-eof : goal.returns-clause-eof
returns-clause-eof c = eof_own
