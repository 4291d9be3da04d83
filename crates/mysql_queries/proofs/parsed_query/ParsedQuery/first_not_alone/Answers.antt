use Rattle.std.proofs.Common.{◌≡◌, IfNone, true, subst}
use Rattle.std.specs.List.{AllByRecursion}
use Rattle.mysql_queries.specs.Query.{Query}
use Rattle.mysql_queries.proofs.AllAlone.{none_apart}
use Rattle.mysql_queries.proofs.parsed_query.ParsedQuery.first_not_alone.Goals as goal

pub returns-clause-none : goal.returns-clause-none
returns-clause-none c = subst
    (λ (q : Query). IfNone c.self.inside.not_alone
    (AllByRecursion (λ place. place.alone ≡ true) q.places)) c.self.view_is
    (none_apart c.self.inside.not_alone c.self.inside.places.items c.self.invariant.not_alone)
