use Rattle.std.proofs.Common.{◌≡◌, ◌++◌, ◌∷◌, [], length}
use Rattle.std.proofs.lemmas.List.{map_push}
use Rattle.mysql_executions.specs.Bulks.{rows_at}
use Rattle.mysql_executions.specs.Views.{rows_of, types_by, types_of}
use Rattle.mysql_executions.proofs.Loops.{rows_done, rows_end, rows_go_on}
use Rattle.mysql_executions.proofs.bulk_reading.read_rows.Goals as goal

pub returns-in-Err-Other : goal.returns-in-Err-Other
returns-in-Err-Other c =
    let types = types_by (types_of c.args.own.now) c.args.in_force.now in
    rows_end types (rows_of c.loop.found.items) (length c.args.bytes.now) c.loop.counter
    c.loop.rest.now (rows_at (length c.args.bytes.now) types c.args.bytes.now) c.loop-test.true
    (rw c.in-Err-Other.field-0-is at c.in-Err-Other.ensures) c.loop.invariant

pub loop-preserved : goal.loop-preserved
loop-preserved c =
    let types = types_by (types_of c.args.own.now) c.args.in_force.now in
    let pushed : rows_of c.push.new.self.items ≡ rows_of c.loop.found.items ++ c.in-Ok.row.items ∷
    [] = rw c.in_ok-push-in-Ok.ensures.items (map_push _ c.loop.found.items c.in-Ok.row) in
    rw pushed (rows_go_on types (rows_of c.loop.found.items) (length c.args.bytes.now)
    c.loop.counter c.loop.rest.now (rows_at (length c.args.bytes.now) types c.args.bytes.now)
    c.in-Ok.row.items c.in-Ok.after.now c.loop-test.true c.in-Ok.ensures c.loop.invariant)

pub returns : goal.returns
returns c =
    let types = types_by (types_of c.args.own.now) c.args.in_force.now in
    rows_done types (rows_of c.loop.found.items) (length c.args.bytes.now) c.loop.counter
    c.loop.rest.now (rows_at (length c.args.bytes.now) types c.args.bytes.now) c.loop-test.false
    c.loop.invariant
