use Rattle.std.proofs.Common.{arith}
use Rattle.mysql_connection_state.proofs.following_sizes.going_size.Goals as goal

pub returns-in-Executing-clause-size : goal.returns-in-Executing-clause-size
returns-in-Executing-clause-size c = rw c.in-Executing.is (c.executing_size.ensures.size c.args.more)

pub returns-in-Resetting-clause-size : goal.returns-in-Resetting-clause-size
returns-in-Resetting-clause-size c =
    let size = c.resetting_size.ensures.size c.args.more in
    rw c.in-Resetting.is (omega arith)
