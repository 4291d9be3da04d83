use Rattle.std.proofs.Common.{◌≡◌, ◌⊎◌, ◌++◌, ◌-◌, Err, Ok, Some, length, map, drop, get_or, arith, take_all}
use Rattle.std.proofs.Common.{length-drop, subst, sym, ap, ◌∙◌, inr}
use Rattle.std.proofs.lemmas.List.{length-map}
use Rattle.mysql_queries.specs.Sql.{read_by}
use Rattle.mysql_literals.specs.Literals.{literal_of}
use Rattle.mysql_values.specs.Params.{values_over}
use Rattle.mysql_values.specs.declared.params.ParamsError.TheVariants.{Memory}
use Rattle.std.proofs.lemmas.Result.{err_from_is_err_and}
use Rattle.mysql_values.proofs.BindCauses.{bind_ok, count_is_cause, float_is_cause, set_is_refused}
use Rattle.mysql_values.proofs.TextWritten.{no_place, written_none, written_more, written_end, written_kept, float_at}
use Rattle.mysql_values.proofs.TextWritten.{text_put, no_text_put, put_kept}
use Rattle.mysql_values.proofs.bind.put_text.Goals as goal

pub loop-i-init : goal.loop-i-init
loop-i-init c = written_none (read_by c.args.mode c.args.spelling c.args.query.now)
    c.args.places.now (map (λ value. value.now) c.as_slice-listed.result.now) c.args.out.now.items
    (c.pieces_of_a_query.ensures.order (read_by c.args.mode c.args.spelling c.args.query.now)
    c.args.places.now c.requires.places)

pub returns-in_err-list_values_over_names-clause-err : goal.returns-in_err-list_values_over_names-clause-err
returns-in_err-list_values_over_names-clause-err c =
    let p = err_from_is_err_and c.from_residual.result c.from_residual.ensures.1 in
    let e = c.in_err-list_values_over_names.field-0.0 in
    rw (p.1, p.2) (set_is_refused c.pieces_of_a_query.ensures.names
    (read_by c.args.mode c.args.spelling c.args.query.now) c.args.params.now c.args.places.now e
    c.requires.places c.requires.one_kind c.requires.alone
    (subst (λ ns. (e ≡ Memory) ⊎ (values_over ns c.args.params.now ≡ Err e)) c.requires.names
    c.in_err-list_values_over_names.ensures.err))

pub returns-then-len-places-clause-err : goal.returns-then-len-places-clause-err
returns-then-len-places-clause-err c =
    let values = map (λ value. value.now) c.list_values_over_names.new.values.items in
    inr (count_is_cause c.pieces_of_a_query.ensures.names
    (read_by c.args.mode c.args.spelling c.args.query.now) c.args.params.now c.args.places.now
    values c.requires.places c.requires.one_kind c.requires.alone
    (ap (λ ns. values_over ns c.args.params.now) (sym c.requires.names) ∙ c.in_ok-list_values_over_names.ensures.ok)
    (λ e. c.if-len-places.true
    (omega (
      arith,
      e,
      length-map c.list_values_over_names.new.values.items (λ value. value.now),
      c.len.ensures,
      c.list_values_over_names.new.values.ok.0,
    ))))

pub returns-in-Err-Float-clause-err : goal.returns-in-Err-Float-clause-err
returns-in-Err-Float-clause-err c =
    let listed = c.as_slice-listed.result.now in
    let n : length listed ≡ length c.args.places.now = ap length c.as_slice-listed.ensures.value ∙
    omega (
      arith,
      c.if-len-places.false,
      c.len.ensures,
      c.list_values_over_names.new.values.ok.0,
    ) in
    let none = no_text_put (literal_of c.args.mode c.args.spelling c.index-listed-i.result.now)
    c.extend_from_slice.new.self.items c.put_sql.new.out.items c.in-Err-Float.field-0
    c.in-Err-Float.ensures.text c.in-Err-Float.field-0-is in
    inr (float_is_cause c.pieces_of_a_query.ensures.names
    (read_by c.args.mode c.args.spelling c.args.query.now) c.args.params.now c.args.places.now
    (map (λ value. value.now) listed) c.loop-i.i c.requires.places c.requires.one_kind
    c.requires.alone
    (ap (λ ns. values_over ns c.args.params.now) (sym c.requires.names) ∙
    c.in_ok-list_values_over_names.ensures.ok ∙
    ap (λ vs. Ok (map (λ value. value.now) vs)) (sym c.as_slice-listed.ensures.value))
    (length-map listed (λ value. value.now) ∙ n)
    (float_at (read_by c.args.mode c.args.spelling c.args.query.now) (λ value. value.now) listed
    c.loop-i.i 0 c.index-listed-i.result c.loop-i.invariant.literals c.loop-i.invariant.each
    (omega (arith, c.loop-i-test.true, n)) c.index-listed-i.is none ∙ ap Some (omega arith)))

pub returns-in-Err-Float-clause-kept : goal.returns-in-Err-Float-clause-kept
returns-in-Err-Float-clause-kept c =
    written_kept c.loop-i.invariant _ c.extend_from_slice.new.self.items c.put_sql.new.out.items
    c.in_ok-extend_from_slice.ensures.items
    (put_kept (literal_of c.args.mode c.args.spelling c.index-listed-i.result.now)
    c.extend_from_slice.new.self.items c.put_sql.new.out.items c.in-Err-Float.field-0
    c.in-Err-Float.ensures.text)

pub returns-in-Err-Memory-clause-kept : goal.returns-in-Err-Memory-clause-kept
returns-in-Err-Memory-clause-kept c =
    written_kept c.loop-i.invariant _ c.extend_from_slice.new.self.items c.put_sql.new.out.items
    c.in_ok-extend_from_slice.ensures.items
    (put_kept (literal_of c.args.mode c.args.spelling c.index-listed-i.result.now)
    c.extend_from_slice.new.self.items c.put_sql.new.out.items c.in-Err-Memory.field-0
    c.in-Err-Memory.ensures.text)

pub loop-i-preserved : goal.loop-i-preserved
loop-i-preserved c =
    let listed = c.as_slice-listed.result.now in
    let n : length listed ≡ length c.args.places.now = ap length c.as_slice-listed.ensures.value ∙
    omega (
      arith,
      c.if-len-places.false,
      c.len.ensures,
      c.list_values_over_names.new.values.ok.0,
    ) in
    let t = text_put (literal_of c.args.mode c.args.spelling c.index-listed-i.result.now)
    c.extend_from_slice.new.self.items c.put_sql.new.out.items c.in-Ok.ensures.text in
    written_more (λ value. value.now) (read_by c.args.mode c.args.spelling c.args.query.now)
    c.args.places.now listed c.loop-i.at c.loop-i.i c.args.out.now.items c.loop-i.out.items
    c.put_sql.new.out.items t.0 c.index-listed-i.result c.loop-i.invariant c.loop-i-test.true
    (omega (arith, c.loop-i-test.true, n)) c.index-listed-i.is t.1 c.put_sql.ensures.literal (t.2 ∙
    ap (λ y. y ++ t.0) c.in_ok-extend_from_slice.ensures.items)

pub returns-clause-ok : goal.returns-clause-ok
returns-clause-ok c =
    let query = c.args.query.now in
    let places = c.args.places.now in
    let listed = c.as_slice-listed.result.now in
    let n : length listed ≡ length places = ap length c.as_slice-listed.ensures.value ∙
    omega (
      arith,
      c.if-len-places.false,
      c.len.ensures,
      c.list_values_over_names.new.values.ok.0,
    ) in
    let count = length-map listed (λ value. value.now) ∙ n in
    let end = written_end (read_by c.args.mode c.args.spelling c.args.query.now) places
    (map (λ value. value.now) listed) c.loop-i.at c.loop-i.i c.args.out.now.items
    c.loop-i.out.items c.extend_from_slice-2.new.self.items c.loop-i.invariant
    c.loop-i-test.false
    count (c.in_ok-extend_from_slice-2.ensures.items ∙
    ap (λ y. c.loop-i.out.items ++
    y) (take_all (length query - c.loop-i.at) (drop c.loop-i.at query)
    (omega (arith, length-drop c.loop-i.at query)))) in
    bind_ok c.pieces_of_a_query.ensures.names c.pieces_of_a_query.ensures.pieces
    c.filled_text_is_read.ensures (read_by c.args.mode c.args.spelling c.args.query.now)
    c.args.params.now places (map (λ value. value.now) listed) c.args.out.now.items
    c.extend_from_slice-2.new.self.items c.requires.places
    c.requires.one_kind c.requires.alone
    (ap (λ ns. values_over ns c.args.params.now) (sym c.requires.names) ∙
    c.in_ok-list_values_over_names.ensures.ok ∙
    ap (λ vs. Ok (map (λ value. value.now) vs)) (sym c.as_slice-listed.ensures.value))
    count end.0 end.1 end.2
