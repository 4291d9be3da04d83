use Rattle.mysql_connection_contents.proofs.Runs.{heard_is_spoken, runs_are_heard}
use Rattle.mysql_connection_contents.proofs.laws.runs_are_heard.Goals as goal

pub returns : goal.returns
returns c = record { heard = runs_are_heard c.last_words_are_last.ensures.last; spoken = heard_is_spoken }
