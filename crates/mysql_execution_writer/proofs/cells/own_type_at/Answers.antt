use Rattle.mysql_execution_writer.proofs.Loops.{unnamed_at}
use Rattle.mysql_execution_writer.proofs.cells.own_type_at.Goals as goal

pub returns-then-place-types-clause-some : goal.returns-then-place-types-clause-some
returns-then-place-types-clause-some c =
    unnamed_at c.args.types.now c.args.place c.index-types-place.result c.if-place-types.true
