use Rattle.mysql_replication.specs.Sids.{sid_view}
use Rattle.mysql_replication.proofs.Equal.{answers, sid_eq, sids}
use Rattle.mysql_replication.proofs.gtid_laws.sets_are_equal_by_their_parts.Goals as goal

pub returns : goal.returns
returns c = answers sid_eq sids (sid_view c.args.a.now) (sid_view c.args.b.now) c.eq.result c.eq.ensures
