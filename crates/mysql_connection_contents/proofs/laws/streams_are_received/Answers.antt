use Rattle.mysql_connection_contents.proofs.Streams.{streams_are_received}
use Rattle.mysql_connection_contents.proofs.laws.streams_are_received.Goals as goal

pub returns : goal.returns
returns c = streams_are_received c.received_commands_are_read.ensures c.prepared_statements_agree.ensures
