use Rattle.std.proofs.lemmas.Bool.Decides.{Decides-at}
use Rattle.mysql_reply_event_writer.proofs.Comparing.{column_decides}
use Rattle.mysql_reply_event_writer.proofs.same.same_column.Goals as goal

pub returns : goal.returns
returns c = Decides-at c.eq.result _ c.eq.ensures (column_decides c.args.a.now c.args.b.now)
