use Rattle.std.proofs.Common.{lit<}
use Rattle.mysql_c_commands.proofs.Fields.{around_comma_is}
use Rattle.mysql_c_commands.proofs.gtids.around_comma.Goals as goal

pub returns : goal.returns
returns c = around_comma_is c.args.text.now c.split_once.result (c.split_once.ensures.byte (lit< tt) (λ w o h. h))
