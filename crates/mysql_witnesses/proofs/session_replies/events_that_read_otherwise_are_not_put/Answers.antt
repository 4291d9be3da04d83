use Rattle.mysql_witnesses.proofs.AboutSessionReplies.{empty_infos_are_not_put, events_that_read_otherwise_are_not_put}
use Rattle.mysql_witnesses.proofs.AboutSessionReplies.{nothing_is_bad_where_nothing_is_due}
use Rattle.mysql_witnesses.proofs.session_replies.events_that_read_otherwise_are_not_put.Goals as goal

pub returns-clause-infos : goal.returns-clause-infos
returns-clause-infos c = empty_infos_are_not_put

pub returns-clause-lines : goal.returns-clause-lines
returns-clause-lines c = events_that_read_otherwise_are_not_put

pub returns-clause-due : goal.returns-clause-due
returns-clause-due c = nothing_is_bad_where_nothing_is_due
