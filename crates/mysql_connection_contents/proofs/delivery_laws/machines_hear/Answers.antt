use Rattle.mysql_connection_contents.proofs.Hearing.{machines_hear}
use Rattle.mysql_connection_contents.proofs.delivery_laws.machines_hear.Goals as goal

pub returns : goal.returns
returns c = machines_hear c.run_exists.ensures c.puts_are_the_run.ensures c.runs_are_heard.ensures.heard
