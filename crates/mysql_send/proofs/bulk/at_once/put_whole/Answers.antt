use Rattle.std.specs.Cow.{cow_slice_items}
use Rattle.std.proofs.Common.{map, ◌≡◌, ℕ, ◌+◌, ◌*◌, ◌++◌, Bor, List, None, length, drop, replicate, true, sym, ◌∙◌, ap}
use Rattle.std.proofs.Common.{subst, arith, length-append}
use Rattle.std.specs.List.{flat_map}
use Rattle.std.proofs.lemmas.List.{length-map, length-replicate, take_at}
use Rattle.mysql_values.specs.Value.{Value}
use Rattle.mysql_bulk_builder.specs.RowLists.{row_in}
use Rattle.mysql_command_rules.specs.Sets.{given_up_to}
use Rattle.mysql_send.specs.Executions.{Limits}
use Rattle.mysql_send.specs.BulkSets.{AppendsRows, front_bytes, row_bytes}
use Rattle.mysql_send.proofs.AtOnce.{all_appended, both_yes, finished, front_length, length_behind}
use Rattle.mysql_send.proofs.bulk.at_once.put_whole.Goals as goal

pub returns-clause-ok : goal.returns-clause-ok
returns-clause-ok c =
    let limits : Limits = record { places = c.args.statement.now.places; bytes = c.args.room } in
    let names = (map cow_slice_items c.args.statement.now.names.now) in
    let old = c.args.out.now.items in
    let out = c.put_rows_of_sets.new.out.items in
    let len : length c.put_rows_of_sets.new.firsts ≡ c.in_ok-firsts.firsts.len =
    omega (
      arith,
      c.put_rows_of_sets.auto.firsts,
      ap length c.deref_mut.ensures.value,
      c.in_ok-firsts.firsts.ok.0,
    ) in
    let lent : c.deref.result.now ≡ c.put_rows_of_sets.new.firsts = c.deref.ensures.value ∙
    take_at c.put_rows_of_sets.new.firsts
    (drop (length c.put_rows_of_sets.new.firsts) c.in_ok-firsts.firsts.items)
    c.in_ok-firsts.firsts.len len in
    let a : AppendsRows limits (given_up_to c.args.sets.now None names) (row_in c.deref.result.now)
    c.leave_room.new.out.items out =
    subst (λ (l : List (Bor Value)). AppendsRows limits (given_up_to c.args.sets.now None names)
    (row_in l) c.leave_room.new.out.items out) (sym lent)
    (c.in_ok-whole.ensures.ok c.if-not-whole.false) in
    let blank : List ℕ = replicate (11 + 2 * c.len.result) 0 in
    let rows : List ℕ = flat_map row_bytes a.rows in
    let is_start : c.len-start.result ≡ length old = omega (arith, c.len-start.ensures, c.args.out.now.ok.0) in
    let room : length blank ≡ 11 + 2 * length c.deref.result.now =
    omega (
      arith,
      length-replicate {A = ℕ} (11 + 2 * c.len.result) 0,
      c.len.ensures,
      len,
      ap length lent,
    ) in
    let are : out ≡ (old ++ blank) ++ rows = a.appended ∙ ap (λ l. l ++ rows) c.in_ok-leave_room.ensures.ok in
    let front = front_bytes c.args.statement.now.id true (row_in c.deref.result.now) in
    let long = length_behind c.len-start.result (11 + 2 * length c.deref.result.now) old blank rows
    out is_start room are in
    both_yes c.finish.result (λ within put.
    all_appended c.requests_have_their_size.ensures c.whole_is_tight.ensures.tight
    c.whole_is_tight.ensures.none c.args.statement.now.id limits names c.args.sets.now
    (row_in c.deref.result.now) c.leave_room.new.out.items out old c.finish.new.out.items
    c.requires a
    (omega (
      arith,
      within,
      long,
      length-append front rows,
      front_length c.args.statement.now.id (row_in c.deref.result.now),
      length-map c.deref.result.now (λ (value : Bor Value). value.now),
    ))
    (finished c.len-start.result (11 + 2 * length c.deref.result.now) old blank rows out is_start
    room are c.finish.new.out.items front put))
    c.finish.ensures.fits c.finish.ensures.ok
