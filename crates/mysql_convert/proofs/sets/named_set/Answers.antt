use Rattle.std.proofs.Common.{◌≡◌, List, ℕ, Some, None, is_some, is_none, nat_eq, unwrap_or, ap, ◌∙◌, sym, inr}
use Rattle.std.proofs.Common.{if◌then◌else◌}
use Rattle.std.specs.Option.{option_or}
use Rattle.std.specs.Cmp.Lexicographic.{pointwise}
use Rattle.mysql_cells.specs.declared.value.Value.{Value}
use Rattle.mysql_cells.specs.declared.value.Value.TheVariants.{NULL}
use Rattle.mysql_values.specs.Params.{value_named}
use Rattle.mysql_convert.proofs.Pairs.{again, is_absent, next, present}
use Rattle.mysql_convert.proofs.sets.named_set.Goals as goal

pub loop-place-preserved : goal.loop-place-preserved
loop-place-preserved g c =
    let x = c.index-pairs-place.result in
    let name : c.as_slice-name.result.now ≡ g.N.AsSlice.items x.0 = c.as_slice-name.ensures in
    let found : g.V.ToValue.as_value x.1 ≡ c.in_ok-found.found = c.in_ok-found.ensures.ok in
    let value : c.unwrap_or.result ≡ unwrap_or (g.V.ToValue.as_value x.1) NULL =
    c.unwrap_or.ensures ∙ ap (λ o. unwrap_or o NULL) (sym found) in
    let free : value_named (g.N.AsSlice.items x.0) c.loop-place.entries.entries ≡ None =
    is_absent (value_named (g.N.AsSlice.items x.0) c.loop-place.entries.entries)
    (ap (λ bytes. is_some (value_named bytes c.loop-place.entries.entries)) (sym name) ∙
    sym c.in_ok-put_entry.ensures.stood ∙ c.if-branch.false) in
    let put : (other : List ℕ) → value_named other c.put_entry.new.entries.entries ≡
    (if pointwise nat_eq other (g.N.AsSlice.items x.0) then Some c.unwrap_or.result else
    value_named other c.loop-place.entries.entries) =
    λ other. c.in_ok-put_entry.ensures.put other ∙
    ap (λ bytes. if pointwise nat_eq other bytes then Some c.unwrap_or.result else value_named
    other c.loop-place.entries.entries) name in
    let long : c.first_long_at-first_long.result ≡
    option_or c.loop-place.first_long
    (if is_none (g.V.ToValue.as_value x.1) then Some c.loop-place.place else None) =
    c.first_long_at-first_long.ensures ∙
    ap (λ o. option_or c.loop-place.first_long
    (if is_none o then Some c.loop-place.place else None)) (sym found) in
    rw long (next (λ pair. (g.N.AsSlice.items pair.0, g.V.ToValue.as_value pair.1)) c.args.pairs.now
    c.loop-place.place x c.loop-place.entries.entries c.put_entry.new.entries.entries
    c.loop-place.first_long c.unwrap_or.result c.loop-place-test.true c.index-pairs-place.is
    value free put c.loop-place.invariant)

pub returns-then-branch-clause-err : goal.returns-then-branch-clause-err
returns-then-branch-clause-err g c =
    let x = c.index-pairs-place.result in
    let name : c.as_slice-name.result.now ≡ g.N.AsSlice.items x.0 = c.as_slice-name.ensures in
    let stands : (value : Value) × (value_named (g.N.AsSlice.items x.0) c.loop-place.entries.entries ≡ Some value) =
    present (value_named (g.N.AsSlice.items x.0) c.loop-place.entries.entries)
    (ap (λ bytes. is_some (value_named bytes c.loop-place.entries.entries)) (sym name) ∙
    sym c.in_ok-put_entry.ensures.stood ∙ c.if-branch.true) in
    let copied : c.in_ok-copy.field-0 ≡ g.N.AsSlice.items x.0 = c.in_ok-copy.ensures ∙ name in
    inr (rw copied (again (λ pair. (g.N.AsSlice.items pair.0, g.V.ToValue.as_value pair.1))
    c.args.pairs.now c.loop-place.place x c.loop-place.entries.entries c.loop-place.first_long
    stands.0 c.loop-place-test.true c.index-pairs-place.is c.loop-place.invariant stands.1))
