use Rattle.std.proofs.Common.{◌≡◌, ◌≤◌, List, ◌++◌, length, ap, arith}
use Rattle.std.proofs.lemmas.List.{drop_all}
use Rattle.mysql_executions.specs.Types.{unnamed}
use Rattle.mysql_executions.specs.Unclear.{cells_from}
use Rattle.mysql_executions.specs.Views.{types_by, types_of}
use Rattle.mysql_executions.specs.declared.types.ParameterType.{ParameterType}
use Rattle.mysql_executions.proofs.CellsInTurn.{cells_end, length_cells}
use Rattle.mysql_executions.proofs.unclear.look_at_values.Goals as goal

pub returns : goal.returns
returns c =
    let types = λ (in_force : List ParameterType). types_by (types_of c.args.own.now) in_force ++
    unnamed c.args.further.now in
    let cells = cells_from c.args.s.now.long_data c.args.nulls.now 0 (types c.args.s.now.types) in
    let many = length_cells c.args.s.now.long_data c.args.nulls.now 0 (types c.args.s.now.types) in
    let same = ap (λ (in_force : List ParameterType). length (types in_force)) c.types.ensures in
    let all : c.loop-place.place ≡ length cells = omega (arith, c.count_of_values-place-end.ensures, same, many) in
    let past : length cells ≤ c.loop-place.place = omega (arith, all) in
    cells_end 0 c.loop-place.place cells c.args.bytes.now c.loop-place.rest.now
    c.loop-place.invariant (drop_all c.loop-place.place cells past) all
