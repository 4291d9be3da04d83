use Rattle.mysql_witnesses.proofs.AboutExecutions.{nothing_else_is_put_for_waiting_data}
use Rattle.mysql_witnesses.proofs.executions.nothing_else_is_put_for_waiting_data.Goals as goal

pub returns : goal.returns
returns c = nothing_else_is_put_for_waiting_data
