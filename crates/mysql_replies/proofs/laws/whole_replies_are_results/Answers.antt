use Rattle.mysql_replies.proofs.ManualSome.{each_such_list}
use Rattle.mysql_replies.proofs.ManualWhole.{only_such_lists}
use Rattle.mysql_replies.proofs.laws.whole_replies_are_results.Goals as goal

pub returns-clause-some : goal.returns-clause-some
returns-clause-some c = each_such_list

pub returns-clause-only : goal.returns-clause-only
returns-clause-only c = only_such_lists
