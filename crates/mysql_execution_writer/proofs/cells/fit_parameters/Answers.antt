use Rattle.std.proofs.Common.{◌≡◌, ◌+◌, drop, length, subst, sym, arith}
use Rattle.std.proofs.lemmas.List.{drop_all}
use Rattle.mysql_executions.specs.Views.{types_by, types_of}
use Rattle.mysql_execution_writer.specs.Cells.{are_parameters}
use Rattle.mysql_execution_writer.proofs.Loops.{at_place, fit_at_end, fit_fails, fit_goes_on, fit_lacks}
use Rattle.mysql_execution_writer.proofs.cells.fit_parameters.Goals as goal

pub returns-then-not-fits_parameter : goal.returns-then-not-fits_parameter
returns-then-not-fits_parameter c =
    fit_fails c.args.s.now.long_data c.loop-place.place
    (drop c.loop-place.place (types_by (types_of c.args.own.now) c.args.s.now.types))
    (drop c.loop-place.place c.args.values.now)
    (are_parameters c.args.s.now.long_data 0
    (types_by (types_of c.args.own.now) c.args.s.now.types) c.args.values.now) c.in-Some.kind
    c.index-values-place.result
    (drop (c.loop-place.place + 1) (types_by (types_of c.args.own.now) c.args.s.now.types))
    (drop (c.loop-place.place + 1) c.args.values.now)
    c.in-Some.ensures.some (at_place c.args.values.now c.loop-place.place
    c.index-values-place.result c.loop-place-test.true c.index-values-place.is)
    (sym c.if-not-fits_parameter.ensures) c.loop-place.invariant

pub returns-in-None : goal.returns-in-None
returns-in-None c =
    fit_lacks c.args.s.now.long_data c.loop-place.place
    (drop c.loop-place.place (types_by (types_of c.args.own.now) c.args.s.now.types))
    (drop c.loop-place.place c.args.values.now)
    (are_parameters c.args.s.now.long_data 0
    (types_by (types_of c.args.own.now) c.args.s.now.types) c.args.values.now)
    c.index-values-place.result (drop (c.loop-place.place + 1) c.args.values.now)
    c.in-None.ensures.none (at_place c.args.values.now c.loop-place.place
    c.index-values-place.result c.loop-place-test.true c.index-values-place.is)
    c.loop-place.invariant

pub loop-place-preserved : goal.loop-place-preserved
loop-place-preserved c =
    fit_goes_on c.args.s.now.long_data c.loop-place.place
    (drop c.loop-place.place (types_by (types_of c.args.own.now) c.args.s.now.types))
    (drop c.loop-place.place c.args.values.now)
    (are_parameters c.args.s.now.long_data 0
    (types_by (types_of c.args.own.now) c.args.s.now.types) c.args.values.now) c.in-Some.kind
    c.index-values-place.result
    (drop (c.loop-place.place + 1) (types_by (types_of c.args.own.now) c.args.s.now.types))
    (drop (c.loop-place.place + 1) c.args.values.now)
    c.in-Some.ensures.some (at_place c.args.values.now c.loop-place.place
    c.index-values-place.result c.loop-place-test.true c.index-values-place.is)
    (sym c.if-not-fits_parameter.ensures) c.loop-place.invariant

pub returns : goal.returns
returns c =
    let all : c.loop-place.place ≡ length c.args.values.now = omega arith in
    fit_at_end c.args.s.now.long_data (length c.args.values.now)
    (drop (length c.args.values.now) (types_by (types_of c.args.own.now) c.args.s.now.types))
    (drop (length c.args.values.now + 1)
    (types_by (types_of c.args.own.now) c.args.s.now.types))
    (drop (length c.args.values.now) c.args.values.now)
    (are_parameters c.args.s.now.long_data 0
    (types_by (types_of c.args.own.now) c.args.s.now.types) c.args.values.now) c.is_none.result
    c.type_at-2.result
    c.is_none.ensures c.type_at-2.ensures.some c.type_at-2.ensures.none
    (drop_all (length c.args.values.now) c.args.values.now (omega arith))
    (subst (λ n. are_parameters c.args.s.now.long_data n
    (drop n (types_by (types_of c.args.own.now) c.args.s.now.types))
    (drop n c.args.values.now) ≡
    are_parameters c.args.s.now.long_data 0
    (types_by (types_of c.args.own.now) c.args.s.now.types) c.args.values.now) all
    c.loop-place.invariant)
