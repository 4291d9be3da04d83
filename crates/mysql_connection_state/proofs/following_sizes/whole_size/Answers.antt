use Rattle.mysql_connection_state.proofs.following_sizes.whole_size.Goals as goal

pub returns-in-Executing-clause-size : goal.returns-in-Executing-clause-size
returns-in-Executing-clause-size c = λ r coming.
    rw c.in-Executing.is (c.whole_executing_size.ensures.size c.args.more r coming)

pub returns-in-Resetting-clause-size : goal.returns-in-Resetting-clause-size
returns-in-Resetting-clause-size c = λ r coming.
    rw c.in-Resetting.is (c.resetting_size.ensures.size c.args.more)
