use Rattle.std.specs.Cow.{cow_slice_items}
use Rattle.std.proofs.Common.{map, ◌≡◌, ◌-◌, Bor, length, take, drop, None, Some, sym, ◌∙◌, ap, subst, arith}
use Rattle.std.specs.List.{AllByRecursion}
use Rattle.std.proofs.lemmas.List.{drop-map, drop_at, length-drop, length-map, take_all}
use Rattle.std.proofs.lemmas.Result.{err_from_is_err_and}
use Rattle.mysql_values.specs.Values.{FitsFields}
use Rattle.mysql_values.specs.Binding.{values_cause}
use Rattle.mysql_values.specs.Value.{Value}
use Rattle.mysql_bulk_builder.specs.Cut.{Row}
use Rattle.mysql_bulk_builder.specs.RowLists.{row_in}
use Rattle.mysql_command_rules.specs.declared.refusal.Refusal.TheVariants as refusals
use Rattle.mysql_send.proofs.SetRows.{count_of, gives_row, refuses_values}
use Rattle.mysql_send.proofs.bulk.rows.put_row_of_set.Goals as goal

pub returns-in_err-check_values-clause-err : goal.returns-in_err-check_values-clause-err
returns-in_err-check_values-clause-err c =
    let p = err_from_is_err_and c.from_residual-in_err-check_values.result
    c.from_residual-in_err-check_values.ensures.1 in
    let start = c.len-start.result in
    let given = c.in_ok-put_values_for.ensures.ok in
    let before : length (row_in c.args.values.now.items) ≡ start =
    omega (
      arith,
      length-map c.args.values.now.items (λ (value : Bor Value). value.now),
      c.len-start.ensures,
      c.args.values.now.ok.0,
    ) in
    let this : row_in (take (length c.deref.result.now - start) (drop start c.deref.result.now)) ≡
    given.0 = ap (λ l. row_in l)
    (take_all (length c.deref.result.now - start) (drop start c.deref.result.now)
    (omega (arith, length-drop start c.deref.result.now))) ∙
    ap (λ l. row_in (drop start l)) c.deref.ensures.value
    ∙ sym (drop-map (λ (value : Bor Value). value.now) start c.put_values_for.new.values.items) ∙
    ap (λ l. drop start l) given.2 ∙
    drop_at (row_in c.args.values.now.items) given.0 start before in
    rw (p.1, p.2) (refuses_values (map cow_slice_items c.args.statement.now.names.now)
    c.args.params.now (record { places = c.args.statement.now.places; bytes = c.args.room })
    c.args.set given.0 c.in_err-check_values.field-0.0 given.1
    (subst (λ (l : Row). values_cause (refusals.WrongCount c.args.set)
    (λ place. refusals.Float c.args.set place) c.args.statement.now.places l ≡
    Some c.in_err-check_values.field-0.0) this c.in_err-check_values.ensures.err))

pub returns-clause-ok : goal.returns-clause-ok
returns-clause-ok c =
    let start = c.len-start.result in
    let given = c.in_ok-put_values_for.ensures.ok in
    let before : length (row_in c.args.values.now.items) ≡ start =
    omega (
      arith,
      length-map c.args.values.now.items (λ (value : Bor Value). value.now),
      c.len-start.ensures,
      c.args.values.now.ok.0,
    ) in
    let this : row_in (take (length c.deref.result.now - start) (drop start c.deref.result.now)) ≡
    given.0 = ap (λ l. row_in l)
    (take_all (length c.deref.result.now - start) (drop start c.deref.result.now)
    (omega (arith, length-drop start c.deref.result.now))) ∙
    ap (λ l. row_in (drop start l)) c.deref.ensures.value
    ∙ sym (drop-map (λ (value : Bor Value). value.now) start c.put_values_for.new.values.items) ∙
    ap (λ l. drop start l) given.2 ∙
    drop_at (row_in c.args.values.now.items) given.0 start before in
    let good : values_cause (refusals.WrongCount c.args.set)
    (λ place. refusals.Float c.args.set place) c.args.statement.now.places given.0 ≡ None =
    subst (λ (l : Row). values_cause (refusals.WrongCount c.args.set)
    (λ place. refusals.Float c.args.set place) c.args.statement.now.places l ≡
    None) this c.in_ok-check_values.ensures.ok in (
      given.0,
      gives_row (map cow_slice_items c.args.statement.now.names.now) c.args.params.now
          (record { places = c.args.statement.now.places; bytes = c.args.room }) c.args.set given.0
          given.1 good
          (subst (λ (l : Row). AllByRecursion (λ value. FitsFields value) l) this c.values_fit.ensures),
      count_of (refusals.WrongCount c.args.set) (λ place. refusals.Float c.args.set place)
          c.args.statement.now.places given.0 good,
      given.2,
    )
