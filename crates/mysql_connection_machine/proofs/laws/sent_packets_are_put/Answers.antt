use Rattle.mysql_connection_machine.proofs.SentPackets.{sent_packets_are_put}
use Rattle.mysql_connection_machine.proofs.laws.sent_packets_are_put.Goals as goal

pub returns : goal.returns
returns c = sent_packets_are_put c.framings_are_found.ensures
