use Rattle.std.proofs.Common.{subst, IfOk}
use Rattle.mysql_queries.specs.Queries.{HasPlaces}
use Rattle.mysql_queries.specs.Sql.{read_in}
use Rattle.mysql_queries.proofs.Modes.{is_default}
use Rattle.mysql_queries.proofs.parsed_query.ParsedQuery.new.Goals as goal

pub returns-clause-places : goal.returns-clause-places
returns-clause-places c =
    subst (λ m. IfOk c.new_in.result (λ query. HasPlaces (read_in m c.args.text.now) query.places))
    (is_default c.default.result c.default.ensures) c.new_in.ensures.places
