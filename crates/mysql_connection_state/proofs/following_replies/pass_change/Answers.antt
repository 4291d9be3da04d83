use Rattle.mysql_connection_state.proofs.following_replies.pass_change.Goals as goal

pub returns-in-Resetting-clause-statements : goal.returns-in-Resetting-clause-statements
returns-in-Resetting-clause-statements c = rw c.in-Resetting.is (c.pass_resetting.ensures c.args.more)
