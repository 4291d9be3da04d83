use Rattle.mysql_reply_event_writer.proofs.Comparing.{row_decides}
use Rattle.mysql_reply_event_writer.proofs.same.same_row.Goals as goal

pub returns : goal.returns
returns c = row_decides c.args.a.now c.args.b.now c.eq.result c.eq.ensures
