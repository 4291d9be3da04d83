use Rattle.mysql_replies.proofs.BorrowedOut.{borrowed_out}
use Rattle.mysql_replies.proofs.laws.lent_rows_are_handed_out.Goals as goal

pub returns : goal.returns
returns c = borrowed_out
