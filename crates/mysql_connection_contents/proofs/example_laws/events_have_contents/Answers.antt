use Rattle.mysql_connection_contents.proofs.Example.{events_have_contents}
use Rattle.mysql_connection_contents.proofs.example_laws.events_have_contents.Goals as goal

pub returns : goal.returns
returns c = events_have_contents
