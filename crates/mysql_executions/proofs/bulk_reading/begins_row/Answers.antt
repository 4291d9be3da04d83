use Rattle.std.proofs.Common.{◌+◌, drop, sym, ◌∙◌, arith}
use Rattle.std.proofs.lemmas.List.{drop_all}
use Rattle.mysql_executions.specs.Bulks.{bulk_value_at}
use Rattle.mysql_executions.specs.Views.{types_by, types_of}
use Rattle.mysql_executions.proofs.Loops.{each_passed, each_passes, each_stops}
use Rattle.mysql_executions.proofs.bulk_reading.begins_row.Goals as goal

pub returns-in-None : goal.returns-in-None
returns-in-None c =
    let types = types_by (types_of c.args.own.now) c.args.in_force.now in
    sym (c.loop-place.invariant ∙
    each_stops (λ place t b. bulk_value_at t b) c.loop-place.place
    (drop c.loop-place.place types) c.loop-place.rest.now c.type_of-kind.result
    (drop (c.loop-place.place + 1) types) c.type_of-kind.ensures c.in-None.ensures)

pub loop-place-preserved : goal.loop-place-preserved
loop-place-preserved c =
    let types = types_by (types_of c.args.own.now) c.args.in_force.now in
    c.loop-place.invariant ∙ each_passes (λ place t b. bulk_value_at t b) c.loop-place.place
    (drop c.loop-place.place types) c.loop-place.rest.now c.type_of-kind.result
    (drop (c.loop-place.place + 1) types) c.in-Some.after.now c.type_of-kind.ensures
    c.in-Some.ensures

pub returns : goal.returns
returns c =
    let types = types_by (types_of c.args.own.now) c.args.in_force.now in
    sym (c.loop-place.invariant ∙
    each_passed (λ place t b. bulk_value_at t b) c.loop-place.place
    (drop c.loop-place.place types) c.loop-place.rest.now
    (drop_all c.loop-place.place types (omega (arith, c.count_of-place-end.ensures))))
