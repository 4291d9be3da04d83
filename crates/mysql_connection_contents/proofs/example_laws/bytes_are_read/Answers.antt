use Rattle.mysql_connection_contents.proofs.Example.{bytes_are_read}
use Rattle.mysql_connection_contents.proofs.example_laws.bytes_are_read.Goals as goal

pub returns : goal.returns
returns c = bytes_are_read
