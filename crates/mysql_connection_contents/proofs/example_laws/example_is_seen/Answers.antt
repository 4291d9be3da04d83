use Rattle.mysql_connection_contents.proofs.Example.{example_is_seen}
use Rattle.mysql_connection_contents.proofs.example_laws.example_is_seen.Goals as goal

pub returns : goal.returns
returns c = example_is_seen c.all_see_the_same.ensures c.run_is_one.ensures
