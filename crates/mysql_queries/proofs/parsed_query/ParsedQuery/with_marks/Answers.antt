use Rattle.std.proofs.Common.{map, sym, ap, ◌∙◌, subst}
use Rattle.std.specs.Cow.{cow_slice_items}
use Rattle.mysql_queries.specs.Queries.{InOrder, IsParsed}
use Rattle.mysql_queries.specs.ParsedQuery.{sql_of_inside}
use Rattle.mysql_queries.specs.Query.{Query}
use Rattle.mysql_queries.proofs.FirstBytes.{same_number}
use Rattle.mysql_queries.proofs.QuerySlices.{places_in_order}
use Rattle.mysql_queries.proofs.QueryWritten.{marked, none_left, parsed_as_it_is, parsed_marked}
use Rattle.mysql_queries.proofs.parsed_query.ParsedQuery.with_marks.Goals as goal

pub returns-in-Borrowed : goal.returns-in-Borrowed
returns-in-Borrowed c =
    let empty = none_left c.self.inside.names.items (sym c.self.inside.names.ok.0 ∙
    same_number _ 0 (sym c.if-is_empty.ensures)) in
    let sql = sql_of_inside c.self.inside in
    subst (λ (q : Query). IsParsed q.sql c.in-Borrowed.text.now) c.self.view_is
    (subst (IsParsed sql) (ap cow_slice_items c.in-Borrowed.is)
    (parsed_as_it_is sql c.self.inside.places.items c.self.invariant.places
    (sym c.self.invariant.names ∙ ap (map cow_slice_items) empty)))

pub returns : goal.returns
returns c =
    let text = cow_slice_items c.self.inside.text in
    subst (λ (q : Query). IsParsed q.sql c.in_ok-with_marks.field-0.items) c.self.view_is
    (parsed_marked (sql_of_inside c.self.inside) c.in_ok-with_marks.field-0.items
    c.self.inside.places.items c.self.invariant.places
    (c.in_ok-with_marks.ensures ∙ ap (λ t. marked t 0 c.deref.result.now) c.as_slice.ensures.value ∙
    ap (marked text 0) c.deref.ensures.value))

pub with_marks-requires : goal.with_marks-requires
with_marks-requires c = subst (λ t. InOrder t 0 c.deref.result.now) (sym c.as_slice.ensures.value)
    (subst (InOrder (cow_slice_items c.self.inside.text) 0) (sym c.deref.ensures.value)
    (places_in_order (sql_of_inside c.self.inside) c.self.inside.places.items c.self.invariant.places))
