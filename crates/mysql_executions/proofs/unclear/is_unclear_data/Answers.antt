use Rattle.std.proofs.Common.{List, Bool, sym, subst, ap, ◌∙◌}
use Rattle.std.specs.Prelude.{◌&&◌, not}
use Rattle.mysql_executions.specs.Unclear.{is_same_type}
use Rattle.mysql_executions.specs.Views.{types_by, types_of}
use Rattle.mysql_executions.specs.declared.types.ParameterType.{ParameterType}
use Rattle.mysql_executions.proofs.CellsInTurn.{At, at_mark}
use Rattle.mysql_executions.proofs.unclear.is_unclear_data.Goals as goal

pub returns-then-has_data : goal.returns-then-has_data
returns-then-has_data c =
    let t = c.earlier_type-before.result in
    let u = c.type_of.result in
    let types = λ (in_force : List ParameterType). types_by (types_of c.args.own.now) in_force in
    at_mark c.args.s.now.long_data c.args.s.now.types (types c.args.s.now.types) c.args.place t u
    (not c.is_same_type-is_same.result)
    (subst (λ (in_force : List ParameterType). At in_force c.args.place t) c.types-earlier.ensures
    c.earlier_type-before.ensures)
    (subst (λ (in_force : List ParameterType). At (types in_force) c.args.place u)
    c.types-earlier.ensures c.type_of.ensures)
    (ap (λ (b : Bool). b && not (is_same_type t u)) (sym c.if-has_data.ensures) ∙
    ap not (sym c.is_same_type-is_same.ensures))

pub returns-else-has_data : goal.returns-else-has_data
returns-else-has_data c =
    let t = c.earlier_type-before.result in
    let u = c.type_of.result in
    let types = λ (in_force : List ParameterType). types_by (types_of c.args.own.now) in_force in
    at_mark c.args.s.now.long_data c.args.s.now.types (types c.args.s.now.types) c.args.place t u c.has_data.result
    (subst (λ (in_force : List ParameterType). At in_force c.args.place t) c.types-earlier.ensures
    c.earlier_type-before.ensures)
    (subst (λ (in_force : List ParameterType). At (types in_force) c.args.place u)
    c.types-earlier.ensures c.type_of.ensures)
    (ap (λ (b : Bool). b && not (is_same_type t u)) (sym c.if-has_data.ensures) ∙ sym c.if-has_data.false)
