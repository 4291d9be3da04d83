use Rattle.std.proofs.Common.{arith}
use Rattle.mysql_executions.specs.Views.{types_by, types_of}
use Rattle.mysql_executions.proofs.CellsInTurn.{length_row_cells}
use Rattle.mysql_executions.proofs.unclear.look_at_row.Goals as goal

pub cell_type_in_row-cell-requires-clause-typed : goal.cell_type_in_row-cell-requires-clause-typed
cell_type_in_row-cell-requires-clause-typed c =
    omega (
      arith,
      c.width_of-place-end.ensures,
      length_row_cells (types_by (types_of c.args.own.now) c.args.in_force.now) c.args.row.now,
    )

pub cell_type_in_row-cell-requires-clause-there : goal.cell_type_in_row-cell-requires-clause-there
cell_type_in_row-cell-requires-clause-there c =
    omega (
      arith,
      c.width_of-place-end.ensures,
      length_row_cells (types_by (types_of c.args.own.now) c.args.in_force.now) c.args.row.now,
    )
