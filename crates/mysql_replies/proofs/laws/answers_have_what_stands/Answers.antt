use Rattle.mysql_replies.proofs.Stood.{each_has_what_stands}
use Rattle.mysql_replies.proofs.laws.answers_have_what_stands.Goals as goal

pub returns : goal.returns
returns c = each_has_what_stands
