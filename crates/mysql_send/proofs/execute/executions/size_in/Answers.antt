use Rattle.mysql_send.proofs.Pieces.{not_empty, size_of_some, too_long}
use Rattle.mysql_send.proofs.execute.executions.size_in.Goals as goal

pub returns-clause-some : goal.returns-clause-some
returns-clause-some g c =
    size_of_some c.executions_have_sizes.ensures g.V.HasValue.value c.args.values.now c.args.room
    (not_empty c.args.values.now c.is_empty.result c.is_empty.ensures c.if-is_empty.false)
    c.size_within.result c.size_within.ensures

pub returns-clause-none : goal.returns-clause-none
returns-clause-none g c =
    too_long c.executions_have_sizes.ensures g.V.HasValue.value c.args.values.now c.args.room
    (not_empty c.args.values.now c.is_empty.result c.is_empty.ensures c.if-is_empty.false)
    c.size_within.result c.size_within.ensures
