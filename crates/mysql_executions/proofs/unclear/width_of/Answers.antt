use Rattle.std.proofs.Common.{arith}
use Rattle.mysql_executions.specs.Views.{types_by, types_of}
use Rattle.mysql_executions.proofs.CellsInTurn.{length_row_cells}
use Rattle.mysql_executions.proofs.unclear.width_of.Goals as goal

pub returns : goal.returns
returns c = omega (
  arith,
  c.min.ensures,
  c.count_of.ensures,
  length_row_cells (types_by (types_of c.args.own.now) c.args.in_force.now) c.args.row.now,
)
