use Rattle.std.proofs.Common.{◌≡◌, ◌+◌, ◌*◌, ◌++◌, ◌∙◌, Bor, length, true, ap, arith}
use Rattle.std.proofs.lemmas.List.{length-map}
use Rattle.mysql_values.specs.Value.{Value}
use Rattle.mysql_bulk_builder.specs.RowLists.{row_in}
use Rattle.mysql_send.specs.BulkSets.{front_bytes}
use Rattle.mysql_send.proofs.AtOnce.{front_length, front_written}
use Rattle.mysql_send.proofs.bulk.at_once.write_front.Goals as goal

pub write_over-requires : goal.write_over-requires
write_over-requires c =
    let values = row_in c.args.firsts.now in
    let is : c.deref.result.now ≡ front_bytes c.args.id true values = c.deref.ensures.value ∙
    c.in_ok-put_front.ensures ∙
    ap (λ l. l ++ front_bytes c.args.id true values) c.new-front.ensures.items in
    omega (
      arith,
      c.requires,
      ap length is,
      front_length c.args.id values,
      length-map c.args.firsts.now (λ (value : Bor Value). value.now),
    )

pub returns-clause-ok : goal.returns-clause-ok
returns-clause-ok c =
    let values = row_in c.args.firsts.now in
    front_written c.args.start (7 + 2 * length c.args.firsts.now) c.deref.result.now
    (front_bytes c.args.id true values) c.args.out.now.items c.write_over.new.out.items
    (c.deref.ensures.value ∙ c.in_ok-put_front.ensures ∙
    ap (λ l. l ++ front_bytes c.args.id true values) c.new-front.ensures.items)
    (front_length c.args.id values ∙
    ap (λ n. 7 + 2 * n) (length-map c.args.firsts.now (λ (value : Bor Value). value.now)))
    c.write_over.ensures
