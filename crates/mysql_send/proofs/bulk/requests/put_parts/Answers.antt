use Rattle.std.proofs.Common.{◌≡◌, ◌+◌, ◌++◌, ◌∷◌, false, length, take, drop, get_or, sym, ◌∙◌, ap, arith, length-take}
use Rattle.std.proofs.lemmas.List.{drop_more, take_at}
use Rattle.mysql_wire.specs.Framing.{framing}
use Rattle.mysql_bulk_builder.specs.RowLists.{row_in, rows_in}
use Rattle.mysql_bulk_builder.specs.TypedRequests.{typing_of}
use Rattle.mysql_bulk_builder.specs.ValueTypes.{first_values}
use Rattle.mysql_command_rules.specs.Commands.{bulk_request}
use Rattle.mysql_send.proofs.SentRequests.{kept_more, part_left, part_sent}
use Rattle.mysql_send.proofs.SetRows.{width_is}
use Rattle.mysql_send.proofs.bulk.requests.put_parts.Goals as goal

pub put_part-requires-clause-arity : goal.put_part-requires-clause-arity
put_part-requires-clause-arity c = λ k d lt.
    c.requires.arity k d lt ∙
    sym (ap length c.deref_mut.ensures.value ∙
    width_is c.parts.firsts.items c.args.columns (take c.parts.start (rows_in c.args.rows.now))
    c.parts.invariant.firsts)

pub put_part-requires-clause-firsts : goal.put_part-requires-clause-firsts
put_part-requires-clause-firsts c =
    let before = take c.parts.start (rows_in c.args.rows.now) in
    let width : length c.deref_mut.result.now ≡ c.args.columns =
    ap length c.deref_mut.ensures.value ∙
    width_is c.parts.firsts.items c.args.columns before c.parts.invariant.firsts in
    ap (λ l. row_in l) c.deref_mut.ensures.value ∙ c.parts.invariant.firsts ∙
    ap (λ n. first_values n before) (sym width)

pub parts-preserved : goal.parts-preserved
parts-preserved c =
    let rows = rows_in c.args.rows.now in
    let part = get_or c.args.cut.now c.parts.part-index (record { typed = false; count = 0 }) in
    let later = drop (c.parts.part-index + 1) c.args.cut.now in
    let here : drop c.parts.part-index c.args.cut.now ≡ part ∷ later =
    drop_more c.args.cut.now c.parts.part-index (record { typed = false; count = 0 })
    c.parts-test.true in
    let width : length c.deref_mut.result.now ≡ c.args.columns =
    ap length c.deref_mut.ensures.value ∙
    width_is c.parts.firsts.items c.args.columns (take c.parts.start rows)
    c.parts.invariant.firsts in
    let put : c.put_part.new.out.items ≡ c.parts.out.items ++
    framing (bulk_request c.args.id c.args.columns rows c.parts.start (typing_of part.typed)
    part.count) 0 =
    c.in_ok-put_part.ensures.ok ∙
    ap (λ n. c.parts.out.items ++
    framing (bulk_request c.args.id n rows c.parts.start (typing_of part.typed) part.count) 0)
    width in
    let len : length c.put_part.new.firsts ≡ c.parts.firsts.len =
    omega (
      arith,
      c.put_part.auto.firsts,
      ap length c.deref_mut.ensures.value,
      c.parts.firsts.ok.0,
    ) in
    let back : take c.parts.firsts.len (c.put_part.new.firsts ++
    drop (length c.put_part.new.firsts) c.parts.firsts.items) ≡ c.put_part.new.firsts =
    take_at c.put_part.new.firsts (drop (length c.put_part.new.firsts) c.parts.firsts.items) c.parts.firsts.len len in
    record {
      firsts = ap (λ l. row_in l) back ∙ c.in_ok-put_part.ensures.firsts ∙
          ap (λ n. first_values n (take (c.parts.start + part.count) rows)) width;
      left = part_left c.parts.start (length c.args.rows.now)
          (drop c.parts.part-index c.args.cut.now) later part here c.parts.invariant.left;
      sent = part_sent c.args.id c.args.columns rows c.parts.start
          (drop c.parts.part-index c.args.cut.now) later part c.parts.out.items
          c.put_part.new.out.items _ here c.parts.invariant.sent put;
      kept = kept_more c.args.out.now.items c.parts.out.items c.put_part.new.out.items
          (framing (bulk_request c.args.id c.args.columns rows c.parts.start (typing_of part.typed)
          part.count) 0)
          (omega (
            arith,
            length-take (length c.args.out.now.items) c.parts.out.items,
            ap length c.parts.invariant.kept,
          )) c.parts.invariant.kept put;
    }
