use Rattle.mysql_connection_contents.proofs.About.{put_packets_are_about}
use Rattle.mysql_connection_contents.proofs.packet_laws.put_packets_are_about.Goals as goal

pub returns : goal.returns
returns c = put_packets_are_about c.sent_packets_are_put.ensures
