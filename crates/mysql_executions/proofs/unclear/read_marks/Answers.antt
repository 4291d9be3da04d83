use Rattle.std.proofs.Common.{◌≤◌, ◌+◌, Bool, List, ◌++◌, length, sym, ap, ◌∙◌, append-nil, arith}
use Rattle.std.proofs.lemmas.List.{drop_all}
use Rattle.mysql_executions.specs.Unclear.{marks_from}
use Rattle.mysql_executions.specs.Views.{types_by, types_of}
use Rattle.mysql_executions.specs.declared.types.ParameterType.{ParameterType}
use Rattle.mysql_executions.proofs.CellsInTurn.{length_marks}
use Rattle.mysql_executions.proofs.unclear.read_marks.Goals as goal

pub returns : goal.returns
returns c =
    let types = types_by (types_of c.args.own.now) c.args.s.now.types in
    let all = marks_from c.args.s.now.long_data 0 c.args.s.now.types types in
    let marks = c.loop-place.marks.items in
    let typed = ap (λ (in_force : List ParameterType). length
    (types_by (types_of c.args.own.now) in_force)) c.types-earlier.ensures in
    let past : length all ≤ c.loop-place.place =
    omega (
      arith,
      c.min-place-end.ensures,
      c.count_of.ensures,
      ap length c.types-earlier.ensures,
      typed,
      length_marks c.args.s.now.long_data 0 c.args.s.now.types types,
    ) in
    sym (c.loop-place.invariant ∙
    ap (λ (later : List Bool). marks ++ later) (drop_all c.loop-place.place all past) ∙
    append-nil marks)
