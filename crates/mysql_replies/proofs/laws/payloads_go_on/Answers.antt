use Rattle.mysql_replies.proofs.GoingOn.{goes_on}
use Rattle.mysql_replies.proofs.laws.payloads_go_on.Goals as goal

pub returns : goal.returns
returns c = goes_on
