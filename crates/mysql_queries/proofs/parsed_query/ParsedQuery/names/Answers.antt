use Rattle.std.proofs.Common.{◌∙◌, ap, map, subst}
use Rattle.std.specs.Cow.{cow_slice_items}
use Rattle.mysql_queries.specs.Parsed.{HasNames}
use Rattle.mysql_queries.specs.ParsedQuery.{sql_of_inside}
use Rattle.mysql_queries.specs.Query.{Query}
use Rattle.mysql_queries.proofs.QueryWritten.{has_names}
use Rattle.mysql_queries.proofs.parsed_query.ParsedQuery.names.Goals as goal

pub returns-clause-of_text : goal.returns-clause-of_text
returns-clause-of_text c =
    subst (λ (q : Query). HasNames q.sql (map cow_slice_items c.as_slice.result.now)) c.self.view_is
    (has_names (sql_of_inside c.self.inside) (map cow_slice_items c.as_slice.result.now)
    c.self.inside.places.items c.self.invariant.places
    (ap (map cow_slice_items) c.as_slice.ensures.value ∙ c.self.invariant.names))
