use Rattle.std.proofs.Common.{◌≡◌, ◌≢◌, List, ℕ, Vec, Bor, length, map, sym, ◌∙◌, arith}
use Rattle.std.proofs.lemmas.Bool.{eqb-false}
use Rattle.std.proofs.lemmas.List.{length-map}
use Rattle.std.specs.declared.alloc.Global.{Global}
use Rattle.mysql_cells.specs.declared.value.Value.{Value}
use Rattle.mysql_bulk_builder.specs.Cut.{row_size}
use Rattle.mysql_bulk_builder.specs.RowLists.{row_in, rows_in}
use Rattle.mysql_bulk_builder.proofs.TooLarge.{first_of_some, none_by, refused_by}
use Rattle.mysql_bulk_builder.proofs.search.row_sizes.Goals as goal

pub returns-in-None-2-clause-refused : goal.returns-in-None-2-clause-refused
returns-in-None-2-clause-refused c =
    let some : length c.args.rows.now ≢ 0 =
    eqb-false (length c.args.rows.now) 0 (sym c.is_empty.ensures ∙ c.if-is_empty.false) in
    sym (first_of_some c.args.room c.args.columns (rows_in c.args.rows.now) c.in-None-2.ensures
    (omega (
      arith,
      some,
      length-map c.args.rows.now
          (λ (r : Bor (List (Bor Value))). row_in r.now),
    )))

pub returns-in-Some-clause-none : goal.returns-in-Some-clause-none
returns-in-Some-clause-none c =
    none_by c.args.room c.args.columns c.in-Some.left (rows_in c.args.rows.now) c.in-Some.ensures
    (λ (sizes : Vec ℕ Global). sizes.items ≡ map row_size (rows_in c.args.rows.now))
    c.sizes_within.result c.sizes_within.ensures.ok

pub returns-in-Some-clause-refused : goal.returns-in-Some-clause-refused
returns-in-Some-clause-refused c =
    refused_by c.args.room c.args.columns c.in-Some.left (rows_in c.args.rows.now) c.in-Some.ensures
    c.sizes_within.result c.sizes_within.ensures.err
