use Rattle.std.proofs.Common.{List, ◌++◌, subst, true, false}
use Rattle.mysql_executions.specs.Types.{unnamed}
use Rattle.mysql_executions.specs.Views.{types_by, types_of}
use Rattle.mysql_executions.specs.declared.types.ParameterType.{ParameterType}
use Rattle.mysql_executions.proofs.CellsInTurn.{At, at_cell}
use Rattle.mysql_executions.proofs.unclear.cell_type.Goals as goal

pub returns-then-is_without_cell : goal.returns-then-is_without_cell
returns-then-is_without_cell c =
    let types = λ (in_force : List ParameterType). types_by (types_of c.args.own.now) in_force ++
    unnamed c.args.further.now in
    at_cell c.args.s.now.long_data c.args.nulls.now (types c.args.s.now.types) c.args.place
    c.type_of_value-kind.result true
    (subst (λ (in_force : List ParameterType). At (types in_force) c.args.place
    c.type_of_value-kind.result) c.types.ensures c.type_of_value-kind.ensures)
    c.if-is_without_cell.ensures

pub returns-else-is_without_cell : goal.returns-else-is_without_cell
returns-else-is_without_cell c =
    let types = λ (in_force : List ParameterType). types_by (types_of c.args.own.now) in_force ++
    unnamed c.args.further.now in
    at_cell c.args.s.now.long_data c.args.nulls.now (types c.args.s.now.types) c.args.place
    c.type_of_value-kind.result false
    (subst (λ (in_force : List ParameterType). At (types in_force) c.args.place
    c.type_of_value-kind.result) c.types.ensures c.type_of_value-kind.ensures)
    c.if-is_without_cell.ensures
