use Rattle.mysql_executions.proofs.Loops.{own_type_at}
use Rattle.mysql_executions.proofs.value_reading.type_of.Goals as goal

pub returns-in-Some : goal.returns-in-Some
returns-in-Some c = own_type_at c.args.own.now c.in-Some.types c.args.in_force.now c.args.place
    c.index.result.now c.in-Some.is c.requires c.index.ensures
