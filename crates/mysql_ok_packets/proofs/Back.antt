-- Packets that were written are read back.
use Rattle.mysql_ok_packets.specs.BackLaws.{eof-back, ok_packet-back, terminator-back}
use Rattle.mysql_ok_packets.specs.Statements.{EofPacketsReadBack, OkPacketsReadBack, TerminatorsReadBack}

pub ok_packets_read_back : OkPacketsReadBack
ok_packets_read_back = ok_packet-back

pub terminators_read_back : TerminatorsReadBack
terminators_read_back = terminator-back

pub eof_packets_read_back : EofPacketsReadBack
eof_packets_read_back = eof-back

-- What is read back, for searches.
pub ruleset read_back = (ok_packets_read_back, terminators_read_back, eof_packets_read_back)
