use Rattle.mysql_reply_writer.proofs.WholeReplies.{whole_writing}
use Rattle.mysql_reply_writer.proofs.laws.whole_writings_are_replies.Goals as goal

pub returns : goal.returns
returns c = whole_writing c.written_replies_are_whole.ensures.framed
