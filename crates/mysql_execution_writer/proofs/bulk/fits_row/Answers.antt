use Rattle.std.proofs.Common.{◌≡◌, ◌+◌, drop, length, subst, sym, arith}
use Rattle.std.proofs.lemmas.List.{drop_all}
use Rattle.mysql_executions.specs.Views.{types_by, types_of}
use Rattle.mysql_execution_writer.specs.Bulks.{is_row}
use Rattle.mysql_execution_writer.proofs.Loops.{at_place}
use Rattle.mysql_execution_writer.proofs.RowLoops.{row_fails, row_fit_at_end, row_fits_on, row_lacks}
use Rattle.mysql_execution_writer.proofs.bulk.fits_row.Goals as goal

pub returns-then-not-fits_bulk_value : goal.returns-then-not-fits_bulk_value
returns-then-not-fits_bulk_value c =
    row_fails (drop c.loop-place.place (types_by (types_of c.args.own.now) c.args.s.now.types))
    (drop c.loop-place.place c.args.row.now)
    (is_row (types_by (types_of c.args.own.now) c.args.s.now.types) c.args.row.now)
    c.in-Some.kind c.index-row-place.result
    (drop (c.loop-place.place + 1) (types_by (types_of c.args.own.now) c.args.s.now.types))
    (drop (c.loop-place.place + 1) c.args.row.now)
    c.in-Some.ensures.some (at_place c.args.row.now c.loop-place.place c.index-row-place.result
    c.loop-place-test.true c.index-row-place.is) (sym c.if-not-fits_bulk_value.ensures)
    c.loop-place.invariant

pub returns-in-None : goal.returns-in-None
returns-in-None c =
    row_lacks (drop c.loop-place.place (types_by (types_of c.args.own.now) c.args.s.now.types))
    (drop c.loop-place.place c.args.row.now)
    (is_row (types_by (types_of c.args.own.now) c.args.s.now.types) c.args.row.now)
    c.index-row-place.result (drop (c.loop-place.place + 1) c.args.row.now)
    c.in-None.ensures.none (at_place c.args.row.now c.loop-place.place c.index-row-place.result
    c.loop-place-test.true c.index-row-place.is) c.loop-place.invariant

pub loop-place-preserved : goal.loop-place-preserved
loop-place-preserved c =
    row_fits_on (drop c.loop-place.place (types_by (types_of c.args.own.now) c.args.s.now.types))
    (drop c.loop-place.place c.args.row.now)
    (is_row (types_by (types_of c.args.own.now) c.args.s.now.types) c.args.row.now)
    c.in-Some.kind c.index-row-place.result
    (drop (c.loop-place.place + 1) (types_by (types_of c.args.own.now) c.args.s.now.types))
    (drop (c.loop-place.place + 1) c.args.row.now)
    c.in-Some.ensures.some (at_place c.args.row.now c.loop-place.place c.index-row-place.result
    c.loop-place-test.true c.index-row-place.is) (sym c.if-not-fits_bulk_value.ensures)
    c.loop-place.invariant

pub returns : goal.returns
returns c =
    let all : c.loop-place.place ≡ length c.args.row.now = omega arith in
    row_fit_at_end (drop (length c.args.row.now)
    (types_by (types_of c.args.own.now) c.args.s.now.types))
    (drop (length c.args.row.now) c.args.row.now)
    (drop (length c.args.row.now + 1) (types_by (types_of c.args.own.now) c.args.s.now.types))
    (is_row (types_by (types_of c.args.own.now) c.args.s.now.types) c.args.row.now)
    c.is_none.result c.type_at-2.result
    c.is_none.ensures c.type_at-2.ensures.some c.type_at-2.ensures.none
    (drop_all (length c.args.row.now) c.args.row.now (omega arith))
    (subst (λ n. is_row (drop n (types_by (types_of c.args.own.now) c.args.s.now.types))
    (drop n c.args.row.now) ≡
    (is_row (types_by (types_of c.args.own.now) c.args.s.now.types) c.args.row.now)) all
    c.loop-place.invariant)
