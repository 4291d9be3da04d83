use Rattle.std.proofs.Common.{◌≡◌, ◌+◌, ◌++◌, drop, length, subst, sym, ◌∙◌, arith}
use Rattle.std.proofs.lemmas.List.{drop_all}
use Rattle.mysql_executions.specs.Views.{types_by, types_of}
use Rattle.mysql_execution_writer.specs.Cells.{are_parameters, parameters_bytes}
use Rattle.mysql_execution_writer.proofs.Begins.{begins_more}
use Rattle.mysql_execution_writer.proofs.Loops.{at_place, fit_ends_at, fit_exceeds_at, fit_fails, fit_goes_on}
use Rattle.mysql_execution_writer.proofs.Loops.{fit_lacks, parameters_done, parameters_go_on}
use Rattle.mysql_execution_writer.proofs.Refusing.{one_refused}
use Rattle.mysql_execution_writer.proofs.cells.append_each.Goals as goal

pub returns-in_default-clause-fits : goal.returns-in_default-clause-fits
returns-in_default-clause-fits c =
    sym (fit_lacks c.args.s.now.long_data c.loop-place.place
    (drop c.loop-place.place (types_by (types_of c.args.own.now) c.args.s.now.types))
    (drop c.loop-place.place c.args.values.now)
    (are_parameters c.args.s.now.long_data 0
    (types_by (types_of c.args.own.now) c.args.s.now.types) c.args.values.now)
    c.index-values-place.result (drop (c.loop-place.place + 1) c.args.values.now)
    c.in_default.ensures.none
    (at_place c.args.values.now c.loop-place.place c.index-values-place.result
    c.loop-place-test.true c.index-values-place.is) c.loop-place.invariant.fit)

pub returns-in-Err-clause-fits : goal.returns-in-Err-clause-fits
returns-in-Err-clause-fits c =
    one_refused c.in-Err.refusal _
    (are_parameters c.args.s.now.long_data 0
    (types_by (types_of c.args.own.now) c.args.s.now.types) c.args.values.now)
    c.in-Err.ensures.fits (λ fails.
    sym (fit_fails c.args.s.now.long_data c.loop-place.place
    (drop c.loop-place.place (types_by (types_of c.args.own.now) c.args.s.now.types))
    (drop c.loop-place.place c.args.values.now)
    (are_parameters c.args.s.now.long_data 0
    (types_by (types_of c.args.own.now) c.args.s.now.types) c.args.values.now) c.in-Some.kind
    c.index-values-place.result
    (drop (c.loop-place.place + 1) (types_by (types_of c.args.own.now) c.args.s.now.types))
    (drop (c.loop-place.place + 1) c.args.values.now)
    c.in-Some.ensures.some (at_place c.args.values.now c.loop-place.place
    c.index-values-place.result c.loop-place-test.true c.index-values-place.is) fails
    c.loop-place.invariant.fit))

pub loop-place-preserved : goal.loop-place-preserved
loop-place-preserved c = record {
  fit =
      fit_goes_on c.args.s.now.long_data c.loop-place.place
      (drop c.loop-place.place (types_by (types_of c.args.own.now) c.args.s.now.types))
      (drop c.loop-place.place c.args.values.now)
      (are_parameters c.args.s.now.long_data 0
      (types_by (types_of c.args.own.now) c.args.s.now.types) c.args.values.now) c.in-Some.kind
      c.index-values-place.result
      (drop (c.loop-place.place + 1) (types_by (types_of c.args.own.now) c.args.s.now.types))
      (drop (c.loop-place.place + 1) c.args.values.now)
      c.in-Some.ensures.some (at_place c.args.values.now c.loop-place.place
      c.index-values-place.result c.loop-place-test.true c.index-values-place.is)
      c.in_default-append_parameter.ensures.fits c.loop-place.invariant.fit;
  written =
      parameters_go_on c.args.s.now.long_data c.loop-place.place
      (drop c.loop-place.place (types_by (types_of c.args.own.now) c.args.s.now.types))
      (drop c.loop-place.place c.args.values.now) c.loop-place.out.items
      c.append_parameter.new.out.items (c.args.out.now.items ++
      parameters_bytes c.args.s.now.long_data 0
      (types_by (types_of c.args.own.now) c.args.s.now.types) c.args.values.now)
      c.in-Some.kind c.index-values-place.result
      (drop (c.loop-place.place + 1) (types_by (types_of c.args.own.now) c.args.s.now.types))
      (drop (c.loop-place.place + 1) c.args.values.now)
      c.in-Some.ensures.some (at_place c.args.values.now c.loop-place.place
      c.index-values-place.result c.loop-place-test.true c.index-values-place.is)
      c.in_default-append_parameter.ensures.written c.loop-place.invariant.written;
  kept = begins_more c.args.out.now.items c.loop-place.out.items _ c.append_parameter.new.out.items
      c.in_default-append_parameter.ensures.written c.loop-place.invariant.kept;
}

pub returns-then-is_some-clause-fits : goal.returns-then-is_some-clause-fits
returns-then-is_some-clause-fits c =
    let all : c.loop-place.place ≡ length c.args.values.now = omega arith in
    sym (fit_exceeds_at c.args.s.now.long_data (length c.args.values.now)
    (drop (length c.args.values.now) (types_by (types_of c.args.own.now) c.args.s.now.types))
    (drop (length c.args.values.now + 1)
    (types_by (types_of c.args.own.now) c.args.s.now.types))
    (drop (length c.args.values.now) c.args.values.now)
    (are_parameters c.args.s.now.long_data 0
    (types_by (types_of c.args.own.now) c.args.s.now.types) c.args.values.now)
    c.type_at-2.result
    (sym c.is_some.ensures ∙ c.if-is_some.true) c.type_at-2.ensures.some
    (drop_all (length c.args.values.now) c.args.values.now (omega arith))
    (subst (λ n. are_parameters c.args.s.now.long_data n
    (drop n (types_by (types_of c.args.own.now) c.args.s.now.types))
    (drop n c.args.values.now) ≡
    are_parameters c.args.s.now.long_data 0
    (types_by (types_of c.args.own.now) c.args.s.now.types) c.args.values.now) all
    c.loop-place.invariant.fit))

pub returns-clause-fits : goal.returns-clause-fits
returns-clause-fits c =
    let all : c.loop-place.place ≡ length c.args.values.now = omega arith in
    sym (fit_ends_at c.args.s.now.long_data (length c.args.values.now)
    (drop (length c.args.values.now) (types_by (types_of c.args.own.now) c.args.s.now.types))
    (drop (length c.args.values.now) c.args.values.now)
    (are_parameters c.args.s.now.long_data 0
    (types_by (types_of c.args.own.now) c.args.s.now.types) c.args.values.now)
    c.type_at-2.result
    (sym c.is_some.ensures ∙ c.if-is_some.false) c.type_at-2.ensures.none
    (drop_all (length c.args.values.now) c.args.values.now (omega arith))
    (subst (λ n. are_parameters c.args.s.now.long_data n
    (drop n (types_by (types_of c.args.own.now) c.args.s.now.types))
    (drop n c.args.values.now) ≡
    are_parameters c.args.s.now.long_data 0
    (types_by (types_of c.args.own.now) c.args.s.now.types) c.args.values.now) all
    c.loop-place.invariant.fit))

pub returns-clause-written : goal.returns-clause-written
returns-clause-written c =
    parameters_done c.args.s.now.long_data c.loop-place.place
    (drop c.loop-place.place (types_by (types_of c.args.own.now) c.args.s.now.types))
    (drop c.loop-place.place c.args.values.now) c.loop-place.out.items (c.args.out.now.items ++
    parameters_bytes c.args.s.now.long_data 0
    (types_by (types_of c.args.own.now) c.args.s.now.types) c.args.values.now)
    (drop_all c.loop-place.place c.args.values.now c.loop-place-test.false) c.loop-place.invariant.written
