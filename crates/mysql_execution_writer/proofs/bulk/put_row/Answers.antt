use Rattle.std.proofs.Common.{◌+◌, ◌++◌, drop}
use Rattle.std.proofs.lemmas.List.{drop_all}
use Rattle.mysql_executions.specs.Views.{types_by, types_of}
use Rattle.mysql_execution_writer.specs.Bulks.{row_bytes}
use Rattle.mysql_execution_writer.proofs.Loops.{at_place}
use Rattle.mysql_execution_writer.proofs.RowLoops.{row_done, row_ends, row_goes_on}
use Rattle.mysql_execution_writer.proofs.bulk.put_row.Goals as goal

pub returns-in-None : goal.returns-in-None
returns-in-None c = row_ends
    (drop c.loop-place.place (types_by (types_of c.args.own.now) c.args.s.now.types))
    (drop c.loop-place.place c.args.row.now) c.loop-place.out.items (c.args.out.now.items ++
    row_bytes (types_by (types_of c.args.own.now) c.args.s.now.types) c.args.row.now)
    c.in-None.ensures.none c.loop-place.invariant

pub loop-place-preserved : goal.loop-place-preserved
loop-place-preserved c =
    row_goes_on (drop c.loop-place.place (types_by (types_of c.args.own.now) c.args.s.now.types))
    (drop c.loop-place.place c.args.row.now) c.loop-place.out.items
    c.put_bulk_value.new.out.items (c.args.out.now.items ++
    row_bytes (types_by (types_of c.args.own.now) c.args.s.now.types) c.args.row.now)
    c.in-Some.kind c.index-row-place.result
    (drop (c.loop-place.place + 1) (types_by (types_of c.args.own.now) c.args.s.now.types))
    (drop (c.loop-place.place + 1) c.args.row.now)
    c.in-Some.ensures.some (at_place c.args.row.now c.loop-place.place c.index-row-place.result
    c.loop-place-test.true c.index-row-place.is) c.in_ok-put_bulk_value-in-Some.ensures
    c.loop-place.invariant

pub returns : goal.returns
returns c = row_done (drop c.loop-place.place
    (types_by (types_of c.args.own.now) c.args.s.now.types))
    (drop c.loop-place.place c.args.row.now) c.loop-place.out.items (c.args.out.now.items ++
    row_bytes (types_by (types_of c.args.own.now) c.args.s.now.types) c.args.row.now)
    (drop_all c.loop-place.place c.args.row.now c.loop-place-test.false) c.loop-place.invariant
