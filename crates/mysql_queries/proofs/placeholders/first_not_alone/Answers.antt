use Rattle.mysql_queries.proofs.AllAlone.{none_apart}
use Rattle.mysql_queries.proofs.placeholders.first_not_alone.Goals as goal

pub returns-clause-none : goal.returns-clause-none
returns-clause-none c = none_apart c.apart_at.result c.args.places.now c.apart_at.ensures
