use Rattle.std.proofs.Common.{◌≡◌, ◌+◌, ◌<◌, ◌++◌, ◌∷◌, [], length, take, drop, get_or, sym, ◌∙◌, ap, arith, below_more}
use Rattle.std.proofs.Common.{None, Bor, List}
use Rattle.std.proofs.lemmas.List.{length-map, take_at}
use Rattle.mysql_cells.specs.declared.value.Value.{Value}
use Rattle.mysql_bulk_builder.specs.Causes.{is_of_other_kind, place_where}
use Rattle.mysql_bulk_builder.specs.RowLists.{row_in, rows_in}
use Rattle.mysql_bulk_builder.specs.ValueTypes.{first_values}
use Rattle.mysql_bulk_builder.proofs.Rows.{row_at}
use Rattle.mysql_bulk_builder.proofs.MixedKinds.{width_is, row_width, none_mixed, first_mixed, rows_more}
use Rattle.mysql_bulk_builder.proofs.kinds.mixed_kinds.Goals as goal

pub place_of_other-requires : goal.place_of_other-requires
place_of_other-requires c = omega (
  arith,
  row_width c.args.rows.now c.args.columns c.loop-set.set c.index-rows-set.result c.requires
      c.loop-set-test.true c.index-rows-set.is,
  ap length c.deref_mut.ensures.value,
  width_is c.loop-set.firsts.items c.args.columns (take c.loop-set.set (rows_in c.args.rows.now))
      c.loop-set.invariant.firsts,
)

pub returns : goal.returns
returns c = none_mixed (rows_in c.args.rows.now)
    (λ k lt. c.loop-set.invariant.none k
    (omega (
      arith,
      lt,
      c.loop-set-test.false,
      length-map c.args.rows.now (λ (r : Bor (List (Bor Value))). row_in r.now),
    )))

pub returns-in-Some : goal.returns-in-Some
returns-in-Some c =
    let rows = rows_in c.args.rows.now in
    let firsts = c.loop-set.firsts.items in
    let wide : length c.deref_mut.result.now ≡ c.args.columns =
    ap length c.deref_mut.ensures.value ∙
    width_is firsts c.args.columns (take c.loop-set.set rows) c.loop-set.invariant.firsts in
    let is : row_in c.deref_mut.result.now ≡ first_values (length c.deref_mut.result.now) (take c.loop-set.set rows) =
    ap (λ l. row_in l) c.deref_mut.ensures.value ∙ c.loop-set.invariant.firsts ∙
    ap (λ n. first_values n (take c.loop-set.set rows)) (sym wide) in
    first_mixed rows c.loop-set.set c.in-Some.place (row_in c.index-rows-set.result.now)
    (omega (
      arith,
      c.loop-set-test.true,
      length-map c.args.rows.now (λ (r : Bor (List (Bor Value))). row_in r.now),
    ))
    (row_at c.args.rows.now c.loop-set.set c.index-rows-set.result [] c.loop-set-test.true
    c.index-rows-set.is) c.loop-set.invariant.none (sym c.in-Some.is ∙
    c.place_of_other.ensures.place (take c.loop-set.set rows) is)

pub loop-set-preserved : goal.loop-set-preserved
loop-set-preserved c =
    let rows = rows_in c.args.rows.now in
    let firsts = c.loop-set.firsts.items in
    let lt : c.loop-set.set < length rows =
    omega (
      arith,
      c.loop-set-test.true,
      length-map c.args.rows.now (λ (r : Bor (List (Bor Value))). row_in r.now),
    ) in
    let wide : length c.deref_mut.result.now ≡ c.args.columns =
    ap length c.deref_mut.ensures.value ∙
    width_is firsts c.args.columns (take c.loop-set.set rows) c.loop-set.invariant.firsts in
    let is : row_in c.deref_mut.result.now ≡ first_values (length c.deref_mut.result.now) (take c.loop-set.set rows) =
    ap (λ l. row_in l) c.deref_mut.ensures.value ∙ c.loop-set.invariant.firsts ∙
    ap (λ n. first_values n (take c.loop-set.set rows)) (sym wide) in
    let at : get_or rows c.loop-set.set [] ≡ row_in c.index-rows-set.result.now =
    row_at c.args.rows.now c.loop-set.set c.index-rows-set.result [] c.loop-set-test.true
    c.index-rows-set.is in
    let none : place_where (is_of_other_kind (take c.loop-set.set rows)) (get_or rows c.loop-set.set []) ≡ None =
    ap (λ r. place_where (is_of_other_kind (take c.loop-set.set rows)) r) at ∙
    sym (c.place_of_other.ensures.place (take c.loop-set.set rows) is) ∙ c.in_default.is in
    let more : row_in c.place_of_other.new.firsts ≡ first_values c.args.columns (take (c.loop-set.set + 1) rows) =
    c.place_of_other.ensures.firsts c.in_default.is (take c.loop-set.set rows) is ∙
    ap (λ n. first_values n (take c.loop-set.set rows ++ row_in c.index-rows-set.result.now ∷
    [])) wide
    ∙ ap (λ r. first_values c.args.columns r)
    (rows_more rows c.loop-set.set (row_in c.index-rows-set.result.now) lt at) in
    let len : length c.place_of_other.new.firsts ≡ c.loop-set.firsts.len =
    omega (
      arith,
      c.place_of_other.auto.firsts,
      ap length c.deref_mut.ensures.value,
      c.loop-set.firsts.ok.0,
    ) in
    let back : take c.loop-set.firsts.len (c.place_of_other.new.firsts ++
    drop (length c.place_of_other.new.firsts) firsts) ≡ c.place_of_other.new.firsts =
    take_at c.place_of_other.new.firsts (drop (length c.place_of_other.new.firsts) firsts) c.loop-set.firsts.len len in
    record {
      firsts = ap (λ l. row_in l) back ∙ more;
      none = below_more (λ k. place_where (is_of_other_kind (take k rows)) (get_or rows k []) ≡
          None) c.loop-set.set c.loop-set.invariant.none none;
    }
