use Rattle.std.proofs.Common.{subst, sym}
use Rattle.mysql_queries.specs.Queries.{InOrder}
use Rattle.mysql_queries.specs.Sql.{read_by}
use Rattle.mysql_queries.proofs.QuerySlices.{places_in_order}
use Rattle.mysql_queries.proofs.parsed_query.ParsedQuery.new_in.Goals as goal

pub names_among-requires : goal.names_among-requires
names_among-requires c = subst (InOrder c.args.text.now 0) (sym c.deref.ensures.value)
    (places_in_order (read_by c.args.mode c.args.spelling c.args.text.now)
    c.in_ok-places.places.items c.in_ok-places.ensures)
