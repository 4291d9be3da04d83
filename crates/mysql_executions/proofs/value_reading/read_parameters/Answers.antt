use Rattle.std.proofs.Common.{◌≡◌, ◌++◌, ◌∷◌, ◌+◌, [], ℕ, List, drop, length, sym, subst, ap, ◌∙◌, arith}
use Rattle.std.proofs.lemmas.List.{drop_all}
use Rattle.std.proofs.lemmas.Result.{err_from_is_err_and}
use Rattle.mysql_field_lists.specs.NullBitmap.{is_null_at}
use Rattle.mysql_executions.specs.Executions.{parameter_at, parameters_at}
use Rattle.std.proofs.Common.{Option}
use Rattle.std.specs.Global.{Vec}
use Rattle.mysql_executions.specs.declared.types.BoundType.{BoundType}
use Rattle.mysql_executions.specs.declared.types.ParameterType.{ParameterType}
use Rattle.mysql_executions.specs.InForce.{data_for}
use Rattle.mysql_executions.specs.Views.{types_by, types_of}
use Rattle.mysql_executions.proofs.Loops.{each_goes_on, each_fails, each_done, fails_as}
use Rattle.mysql_executions.proofs.value_reading.read_parameters.Goals as goal

-- the type at a place by what is in force
here : (slice in_force : List ParameterType) (own : Option (Vec BoundType)) (place : ℕ)
    (t : ParameterType) → slice ≡ in_force → drop place (types_by (types_of own) slice) ≡ t ∷
    drop (place + 1) (types_by (types_of own) slice)
    → drop place (types_by (types_of own) in_force) ≡ t ∷ drop (place + 1) (types_by (types_of own) in_force)
here slice in_force own place t e h =
    subst (λ (l : List ParameterType). drop place (types_by (types_of own) l) ≡ t ∷
    drop (place + 1) (types_by (types_of own) l)) e h

pub returns-in_err-next : goal.returns-in_err-next
returns-in_err-next c =
    let p = err_from_is_err_and c.from_residual-in_err-next.result c.from_residual-in_err-next.ensures.1 in
    let types = types_by (types_of c.args.own.now) c.args.s.now.types in
    rw (p.1, p.2) (each_fails
    (λ place t b. parameter_at (data_for c.args.s.now.long_data place)
    (is_null_at 0 c.args.nulls.now place) t b) c.loop-place.values.items c.loop-place.place
    (drop c.loop-place.place types) c.loop-place.rest.now
    (parameters_at c.args.s.now.long_data c.args.nulls.now types c.args.bytes.now)
    c.in_err-next.field-0.0 c.type_of-kind.result (drop (c.loop-place.place + 1) types)
    (here c.types-in-loop-place.result.now c.args.s.now.types c.args.own.now c.loop-place.place
    c.type_of-kind.result c.types-in-loop-place.ensures c.type_of-kind.ensures)
    (fails_as c.in_err-next.field-0.0
    (parameter_at (data_for c.args.s.now.long_data c.loop-place.place) c.is_null-null.result
    c.type_of-kind.result c.loop-place.rest.now)
    (parameter_at (data_for c.args.s.now.long_data c.loop-place.place)
    (is_null_at 0 c.args.nulls.now c.loop-place.place) c.type_of-kind.result
    c.loop-place.rest.now)
    (ap (λ b. parameter_at (data_for c.args.s.now.long_data c.loop-place.place) b
    c.type_of-kind.result c.loop-place.rest.now) (sym c.is_null-null.ensures))
    c.in_err-next.ensures)
    c.loop-place.invariant)

pub loop-place-preserved : goal.loop-place-preserved
loop-place-preserved c =
    let types = types_by (types_of c.args.own.now) c.args.s.now.types in
    let e : c.push.new.self.items ≡ c.loop-place.values.items ++ c.in_ok-next.next ∷ [] = c.in_ok-push.ensures.items in
    rw e (each_goes_on (λ place t b. parameter_at (data_for c.args.s.now.long_data place)
    (is_null_at 0 c.args.nulls.now place) t b) c.loop-place.values.items c.loop-place.place
    (drop c.loop-place.place types) c.loop-place.rest.now
    (parameters_at c.args.s.now.long_data c.args.nulls.now types c.args.bytes.now)
    c.type_of-kind.result (drop (c.loop-place.place + 1) types) c.in_ok-next.next
    c.in_ok-next.after.now (here c.types-in-loop-place.result.now c.args.s.now.types
    c.args.own.now c.loop-place.place c.type_of-kind.result c.types-in-loop-place.ensures
    c.type_of-kind.ensures)
    (ap (λ b. parameter_at (data_for c.args.s.now.long_data c.loop-place.place) b
    c.type_of-kind.result c.loop-place.rest.now) (sym c.is_null-null.ensures) ∙
    c.in_ok-next.ensures)
    c.loop-place.invariant)

pub returns : goal.returns
returns c =
    let types = types_by (types_of c.args.own.now) c.args.s.now.types in
    each_done (λ place t b. parameter_at (data_for c.args.s.now.long_data place)
    (is_null_at 0 c.args.nulls.now place) t b) c.loop-place.values.items c.loop-place.place
    (drop c.loop-place.place types) c.loop-place.rest.now
    (parameters_at c.args.s.now.long_data c.args.nulls.now types c.args.bytes.now)
    (drop_all c.loop-place.place types
    (omega (
      arith,
      c.count_of-count.ensures,
      ap (λ l. length (types_by (types_of c.args.own.now) l)) c.types.ensures,
    )))
    c.loop-place.invariant
