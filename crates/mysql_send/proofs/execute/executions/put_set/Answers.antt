use Rattle.std.proofs.Common.{map, ap, sym, ◌∙◌, ℕ, Bor, List, Ok}
use Rattle.std.specs.Cow.{cow_slice_items}
use Rattle.mysql_values.specs.Params.{values_over}
use Rattle.mysql_values.specs.Value.{Value}
use Rattle.mysql_send.proofs.Statements.{list_in_order, one_put}
use Rattle.mysql_send.proofs.execute.executions.put_set.Goals as goal

pub returns-in-Positional-clause-ok : goal.returns-in-Positional-clause-ok
returns-in-Positional-clause-ok c =
    let s = c.args.statement.now in
    let values = map (λ (value : Value). value) c.as_slice.result.now in
    let over = list_in_order cow_slice_items c.names-names.result.now s.parsed.names
    c.args.params.now c.in-Positional.list c.as_slice.result.now c.is_empty.result
    c.in-Positional.is c.names-names.ensures c.is_empty.ensures c.if-is_empty.true
    c.as_slice.ensures.value in
    one_put s.sql s.parsed s.places c.place_count-places.ensures.is s.id c.args.limit c.args.set
    c.args.params.now values over
    c.put_values.result c.id-id.result c.place_count-places.result c.args.out.now.items
    c.put_values.new.out.items c.id-id.ensures c.place_count-places.ensures.count
    c.put_values.ensures.ok

pub returns-in_default-list_values_over_names-clause-ok : goal.returns-in_default-list_values_over_names-clause-ok
returns-in_default-list_values_over_names-clause-ok c =
    let s = c.args.statement.now in
    let values = map (λ (value : Bor Value). value.now) c.as_slice-in_default.result.now in
    let over = ap (λ (names : List (List ℕ)). values_over names c.args.params.now)
    (sym c.names-names.ensures) ∙ c.in_default-list_values_over_names.ensures.ok ∙
    ap (λ (l : List (Bor Value)). Ok (map (λ value. value.now) l))
    (sym c.as_slice-in_default.ensures.value) in
    one_put s.sql s.parsed s.places c.place_count-places.ensures.is s.id c.args.limit c.args.set
    c.args.params.now values over
    c.put_values-in_default.result c.id-id.result c.place_count-places.result c.args.out.now.items
    c.put_values-in_default.new.out.items c.id-id.ensures c.place_count-places.ensures.count
    c.put_values-in_default.ensures.ok
