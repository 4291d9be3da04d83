use Rattle.std.proofs.Common.{map, sym, ap, ◌∙◌, subst}
use Rattle.std.specs.Cow.{cow_slice_items}
use Rattle.mysql_queries.specs.Queries.{IsParsed}
use Rattle.mysql_queries.specs.Sql.{read_by_default}
use Rattle.mysql_queries.proofs.FirstBytes.{same_number}
use Rattle.mysql_queries.proofs.QuerySlices.{places_in_order}
use Rattle.mysql_queries.proofs.QueryWritten.{has_names, none_left, parsed_as_it_is, parsed_marked}
use Rattle.mysql_queries.proofs.named_params.ParsedNamedParams.parse_at.Goals as goal
use Rattle.mysql_queries.proofs.named_params.ParsedNamedParams.parse_at.Goals.{then-is_empty}
use Rattle.mysql_queries.proofs.named_params.ParsedNamedParams.parse_at.Goals.{else-is_empty+in_ok-with_marks}

pub returns-clause-names : goal.returns-clause-names
returns-clause-names c = has_names (read_by_default c.args.query.now)
    (map cow_slice_items c.in_ok-params.params.items) c.args.places.now c.requires
    c.in_ok-params.ensures

pub returns-clause-query : goal.returns-clause-query
returns-clause-query c = elim c.if-is_empty.branch [
  | then-is_empty w ↦ (let empty =
      none_left c.in_ok-params.params.items (sym c.in_ok-params.params.ok.0 ∙
      same_number _ 0 (sym w.if-is_empty.ensures)) in
      subst (IsParsed (read_by_default c.args.query.now)) (sym (ap cow_slice_items w.parsed-is))
      (parsed_as_it_is (read_by_default c.args.query.now) c.args.places.now c.requires
      (sym c.in_ok-params.ensures ∙ ap (map cow_slice_items) empty)))
  | else-is_empty+in_ok-with_marks w ↦ parsed_marked (read_by_default c.args.query.now)
      (cow_slice_items c.if-is_empty.parsed) c.args.places.now c.requires
      (ap cow_slice_items w.parsed-is ∙ w.in_ok-with_marks.ensures)
]

pub names_among-requires : goal.names_among-requires
names_among-requires c = places_in_order (read_by_default c.args.query.now) c.args.places.now c.requires

pub with_marks-requires : goal.with_marks-requires
with_marks-requires c = places_in_order (read_by_default c.args.query.now) c.args.places.now c.requires
