use Rattle.mysql_replies.proofs.HandedOut.{taken_are_the_reply}
use Rattle.mysql_replies.proofs.laws.taken_results_are_the_reply.Goals as goal

pub returns : goal.returns
returns c = taken_are_the_reply
