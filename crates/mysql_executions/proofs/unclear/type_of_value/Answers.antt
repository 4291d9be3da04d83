use Rattle.mysql_executions.specs.Views.{types_by, types_of}
use Rattle.mysql_executions.proofs.CellsInTurn.{at_further}
use Rattle.mysql_executions.proofs.unclear.type_of_value.Goals as goal

pub returns-else-place-count : goal.returns-else-place-count
returns-else-place-count c =
    at_further (types_by (types_of c.args.own.now) c.args.in_force.now) c.args.further.now
    c.args.place c.count_of-count.result c.index-further-place.result c.count_of-count.ensures
    c.if-place-count.false c.requires
