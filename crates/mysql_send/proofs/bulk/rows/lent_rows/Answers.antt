use Rattle.std.proofs.Common.{◌≡◌, ◌+◌, ◌-◌, ◌<◌, ◌++◌, List, refl, Bor, length, drop, sym, ◌∙◌, ap, subst, arith}
use Rattle.std.specs.Prelude.{All}
use Rattle.std.proofs.lemmas.List.{append-nil, length-drop, length-map, length-take}
use Rattle.std.proofs.lemmas.List.Elements.{All-push}
use Rattle.mysql_values.specs.Value.{Value}
use Rattle.mysql_bulk_builder.specs.RowLists.{row_in, rows_in}
use Rattle.mysql_send.proofs.SetRows.{lent_more, none_behind}
use Rattle.mysql_send.proofs.bulk.rows.lent_rows.Goals as goal

pub rows-preserved : goal.rows-preserved
rows-preserved c =
    let cut : (c.rows.start + c.args.columns) - c.rows.start ≡ c.args.columns = omega arith in
    record {
      within = omega (arith, c.rows-test.true, c.rows.invariant.within);
      same = λ rows are.
          let before = c.rows.invariant.same rows are in
          lent_more c.args.columns c.rows.start ((c.rows.start + c.args.columns) - c.rows.start)
          c.args.values.now c.rows.lent.items c.push.new.self.items _ rows before.0
          c.requires c.rows-test.true cut c.in_ok-push.ensures.items refl before.1 before.2;
      wide =
          subst (λ (l : List (Bor (List (Bor Value)))). All (λ row. length row.now ≡
          c.args.columns) l) (sym c.in_ok-push.ensures.items)
          (All-push (λ (row : Bor (List (Bor Value))). length row.now ≡
          c.args.columns) c.rows.lent.items _ c.rows.invariant.wide
          (omega (
            arith,
            cut,
            c.rows-test.true,
            length-take ((c.rows.start + c.args.columns) - c.rows.start)
                (drop c.rows.start c.args.values.now),
            length-drop c.rows.start c.args.values.now,
          )));
    }

pub returns-clause-same : goal.returns-clause-same
returns-clause-same c = λ rows are.
    let before = c.rows.invariant.same rows are in
    let few : length (row_in (drop c.rows.start c.args.values.now)) < c.args.columns =
    omega (
      arith,
      c.rows-test.false,
      length-map (drop c.rows.start c.args.values.now) (λ (value : Bor Value). value.now),
      length-drop c.rows.start c.args.values.now,
    ) in
    sym (append-nil (rows_in c.rows.lent.items)) ∙
    ap (λ l. rows_in c.rows.lent.items ++
    l) (sym (none_behind c.args.columns (row_in (drop c.rows.start c.args.values.now)) before.0
    few before.2)) ∙ before.1
