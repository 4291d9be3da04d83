use Rattle.std.proofs.Common.{subst, IfOk}
use Rattle.mysql_queries.specs.Queries.{HasPlaces}
use Rattle.mysql_queries.specs.Sql.{read_in}
use Rattle.mysql_queries.proofs.Modes.{is_default}
use Rattle.mysql_queries.proofs.placeholders.places.Goals as goal

pub returns : goal.returns
returns c = subst (λ m. IfOk c.places_in.result
    (λ v. HasPlaces (read_in m c.args.query.now) v.items))
    (is_default c.default.result c.default.ensures) c.places_in.ensures
