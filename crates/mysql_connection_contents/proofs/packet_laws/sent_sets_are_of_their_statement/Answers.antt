use Rattle.mysql_connection_contents.proofs.About.{further_sets_are_of, sent_sets_are_of}
use Rattle.mysql_connection_contents.proofs.packet_laws.sent_sets_are_of_their_statement.Goals as goal

pub returns : goal.returns
returns c = record { sent = sent_sets_are_of; further = further_sets_are_of }
