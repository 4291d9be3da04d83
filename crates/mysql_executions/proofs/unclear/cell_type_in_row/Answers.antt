use Rattle.std.proofs.Common.{Some, None}
use Rattle.mysql_executions.specs.Views.{types_by, types_of}
use Rattle.mysql_executions.proofs.CellsInTurn.{at_row_cell}
use Rattle.mysql_executions.proofs.unclear.cell_type_in_row.Goals as goal

pub returns-then-has_cell : goal.returns-then-has_cell
returns-then-has_cell c =
    at_row_cell (types_by (types_of c.args.own.now) c.args.in_force.now) c.args.row.now c.args.place
    c.type_of-kind.result c.index-row-place.result (Some c.type_of-kind.result)
    c.type_of-kind.ensures c.requires.there
    (cc (c.if-has_cell.ensures c.type_of-kind.result, c.index-row-place.is))

pub returns-else-has_cell : goal.returns-else-has_cell
returns-else-has_cell c =
    at_row_cell (types_by (types_of c.args.own.now) c.args.in_force.now) c.args.row.now c.args.place
    c.type_of-kind.result c.index-row-place.result None c.type_of-kind.ensures c.requires.there
    (cc (c.if-has_cell.ensures c.type_of-kind.result, c.index-row-place.is))
