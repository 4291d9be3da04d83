use Rattle.std.proofs.Common.{◌≡◌, ◌-◌, map}
use Rattle.mysql_field_lists.specs.Lists.{elements_at}
use Rattle.mysql_replication.specs.Blocks.{sid_at}
use Rattle.mysql_replication.specs.Sids.{sid_view}
use Rattle.mysql_field_lists.specs.ElementLaws.{with_front}
use Rattle.mysql_replication.proofs.block.sids_from.Given as goal

abbrev pub invariant-loop : goal.invariant-loop
invariant-loop l =
    with_front (map sid_view l.sids.items) (elements_at (sid_at l.tagged) (l.count - l.counter) l.rest.0.now)
    ≡ elements_at (sid_at l.tagged) l.count l.initial.rest.0.now
