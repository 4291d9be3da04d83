use Rattle.mysql_reply_writer.proofs.Steps.{two_written}
use Rattle.mysql_reply_writer.proofs.laws.writings_go_on.Goals as goal

pub returns : goal.returns
returns c = two_written
