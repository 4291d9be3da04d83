use Rattle.std.proofs.Common.{◌≡◌, ◌++◌, ◌∷◌, ◌+◌, [], drop, arith}
use Rattle.std.proofs.lemmas.List.{drop_all}
use Rattle.std.proofs.lemmas.Result.{err_from_is_err_and}
use Rattle.mysql_executions.specs.Bulks.{bulk_value_at, row_at}
use Rattle.mysql_executions.specs.Views.{types_by, types_of}
use Rattle.mysql_executions.proofs.Loops.{each_goes_on, each_fails, each_done}
use Rattle.mysql_executions.proofs.bulk_reading.read_row.Goals as goal

pub returns-in_err-next : goal.returns-in_err-next
returns-in_err-next c =
    let p = err_from_is_err_and c.from_residual-in_err-next.result c.from_residual-in_err-next.ensures.1 in
    let types = types_by (types_of c.args.own.now) c.args.in_force.now in
    rw (p.1, p.2) (each_fails (λ place t b. bulk_value_at t b) c.loop-place.values.items
    c.loop-place.place (drop c.loop-place.place types) c.loop-place.rest.now
    (row_at types c.args.bytes.now)
    c.in_err-next.field-0.0 c.type_of-kind.result (drop (c.loop-place.place + 1) types)
    c.type_of-kind.ensures c.in_err-next.ensures c.loop-place.invariant)

pub loop-place-preserved : goal.loop-place-preserved
loop-place-preserved c =
    let types = types_by (types_of c.args.own.now) c.args.in_force.now in
    let e : c.push.new.self.items ≡ c.loop-place.values.items ++ c.in_ok-next.next ∷ [] = c.in_ok-push.ensures.items in
    rw e (each_goes_on (λ place t b. bulk_value_at t b) c.loop-place.values.items c.loop-place.place
    (drop c.loop-place.place types) c.loop-place.rest.now (row_at types c.args.bytes.now)
    c.type_of-kind.result (drop (c.loop-place.place + 1) types) c.in_ok-next.next
    c.in_ok-next.after.now c.type_of-kind.ensures c.in_ok-next.ensures c.loop-place.invariant)

pub returns : goal.returns
returns c =
    let types = types_by (types_of c.args.own.now) c.args.in_force.now in
    each_done (λ place t b. bulk_value_at t b) c.loop-place.values.items c.loop-place.place
    (drop c.loop-place.place types) c.loop-place.rest.now (row_at types c.args.bytes.now)
    (drop_all c.loop-place.place types (omega (arith, c.count_of-count.ensures))) c.loop-place.invariant
