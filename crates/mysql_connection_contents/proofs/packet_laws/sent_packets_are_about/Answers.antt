use Rattle.mysql_connection_contents.proofs.Commanding.{sent_packets_are_about}
use Rattle.mysql_connection_contents.proofs.packet_laws.sent_packets_are_about.Goals as goal

pub returns : goal.returns
returns c = sent_packets_are_about
