use Rattle.std.proofs.Common.{lit<}
use Rattle.mysql_replication.proofs.Fields.{around_colon_is}
use Rattle.mysql_replication.proofs.sid.around_colon.Goals as goal

pub returns : goal.returns
returns c = around_colon_is c.args.text.now c.split_once.result (c.split_once.ensures.byte (lit< tt) (λ w o h. h))
