use Rattle.mysql_connection_contents.proofs.ExampleCalls.{example_is_made}
use Rattle.mysql_connection_contents.proofs.example_laws.example_is_made.Goals as goal

pub returns : goal.returns
returns c = example_is_made
