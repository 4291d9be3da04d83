use Rattle.mysql_connection_state.proofs.following_replies.pass_executing.Goals as goal

pub returns-clause-statements : goal.returns-clause-statements
returns-clause-statements c = λ more.
    rw (← c.replace.ensures.value, c.in-Executing.is) (c.answered.ensures.statements more)
