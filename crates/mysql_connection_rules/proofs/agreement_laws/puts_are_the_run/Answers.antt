use Rattle.mysql_connection_rules.proofs.Agreeing.{puts_are_the_run}
use Rattle.mysql_connection_rules.proofs.agreement_laws.puts_are_the_run.Goals as goal

pub returns : goal.returns
returns c = puts_are_the_run c.pieces_are_the_run.ensures
