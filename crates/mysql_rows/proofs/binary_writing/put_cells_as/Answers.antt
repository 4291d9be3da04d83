use Rattle.std.proofs.Common.{◌≡◌, ◌<◌, List, [], ap, drop, get_or, length, map, refl, sym, take, ◌∙◌, arith}
use Rattle.std.specs.Prelude.{unwrap_or}
use Rattle.std.specs.Option.{option_and_then}
use Rattle.std.proofs.lemmas.List.{drop_all, get_or-map, length-map, length-take-le}
use Rattle.mysql_columns.specs.Views.{column_view}
use Rattle.mysql_columns.specs.declared.column.Column.{Column}
use Rattle.mysql_rows.specs.CellsWritten.{cells_in}
use Rattle.mysql_rows.specs.Views.{column_views}
use Rattle.mysql_rows.specs.Written.{cell_in}
use Rattle.mysql_rows.proofs.BinaryWriting.{next_bytes, next_cause, next_own}
use Rattle.mysql_rows.proofs.NullBits.{bit_has_room, bit_inside, cell_passed, none_passed, row_passed}
use Rattle.mysql_rows.proofs.binary_writing.put_cells_as.Goals as goal

pub loop-place-init : goal.loop-place-init
loop-place-init g c = record {
  so_far = none_passed g.C.Held.held c.args.cells.now c.args.out.now.items
      (cells_in (column_views c.args.columns.now) (map g.C.Held.held c.args.cells.now))
      c.args.bitmap c.requires.clear;
  caused = refl;
  own = λ is_own own. own;
}

pub put_held-requires-clause-inside : goal.put_held-requires-clause-inside
put_held-requires-clause-inside g c =
    bit_inside (take c.args.bitmap c.args.out.now.items) (map g.C.Held.held c.args.cells.now)
    c.loop-place.place c.args.bitmap _ _ c.loop-place.out.items
    (sym (length-take-le c.args.bitmap c.args.out.now.items c.requires.from))
    (omega (
      arith,
      c.loop-place-test.true,
      c.requires.same,
      length-map c.args.cells.now g.C.Held.held,
    )) c.loop-place.invariant.so_far

pub put_held-requires-clause-room : goal.put_held-requires-clause-room
put_held-requires-clause-room g c =
    bit_has_room (take c.args.bitmap c.args.out.now.items) (map g.C.Held.held c.args.cells.now)
    c.loop-place.place c.args.bitmap _ _ c.loop-place.out.items
    (sym (length-take-le c.args.bitmap c.args.out.now.items c.requires.from))
    (omega (
      arith,
      c.loop-place-test.true,
      c.requires.same,
      length-map c.args.cells.now g.C.Held.held,
    )) c.loop-place.invariant.so_far

pub loop-place-preserved : goal.loop-place-preserved
loop-place-preserved g c =
    let cells = map g.C.Held.held c.args.cells.now in
    let cell = g.C.Held.held c.index-cells-place.result in
    let inside : c.loop-place.place < length c.args.cells.now =
    omega (arith, c.loop-place-test.true, c.requires.same) in
    let this : cell ≡ get_or cells c.loop-place.place cell =
    ap g.C.Held.held c.index-cells-place.is ∙
    sym (get_or-map g.C.Held.held c.args.cells.now c.loop-place.place c.index-cells-place.result
    cell inside) in
    record {
      so_far = cell_passed (take c.args.bitmap c.args.out.now.items) cells c.loop-place.place
          c.args.bitmap _ _ c.loop-place.out.items
          (sym (length-take-le c.args.bitmap c.args.out.now.items c.requires.from))
          (omega (arith, inside, length-map c.args.cells.now g.C.Held.held))
          c.loop-place.invariant.so_far
          cell (unwrap_or (option_and_then (cell_in (column_view c.index-columns-place.result))
          cell) []) _ c.put_held.new.out.items this
          (next_bytes g.C.Held.held c.args.columns.now c.args.cells.now c.loop-place.place
          c.index-columns-place.result c.index-cells-place.result c.loop-place-test.true inside
          c.index-columns-place.is c.index-cells-place.is)
          c.in_ok-put_held.ensures.ok;
      caused = next_cause g.C.Held.held c.args.columns.now c.args.cells.now c.loop-place.place
          c.index-columns-place.result c.index-cells-place.result c.loop-place-test.true inside
          c.index-columns-place.is c.index-cells-place.is
          _ c.in_ok-put_held.ensures.form c.loop-place.invariant.caused;
      own = λ is_own later. c.loop-place.invariant.own is_own
          (next_own g.C.Held.held c.args.columns.now c.args.cells.now c.loop-place.place
          c.index-columns-place.result c.index-cells-place.result c.loop-place-test.true inside
          c.index-columns-place.is c.index-cells-place.is
          (c.in_ok-put_held.ensures.own is_own) later);
    }

pub returns-clause-ok : goal.returns-clause-ok
returns-clause-ok g c =
    row_passed (take c.args.bitmap c.args.out.now.items) c.loop-place.out.items
    (cells_in (column_views c.args.columns.now) (map g.C.Held.held c.args.cells.now)) _
    (map g.C.Held.held c.args.cells.now) c.loop-place.place
    (omega (arith, c.loop-place-test.false, c.requires.same, length-map c.args.cells.now g.C.Held.held))
    (ap (λ (l : List Column). cells_in (column_views l)
    (map g.C.Held.held (drop c.loop-place.place c.args.cells.now)))
    (drop_all c.loop-place.place c.args.columns.now (omega (arith, c.loop-place-test.false))))
    c.loop-place.invariant.so_far
