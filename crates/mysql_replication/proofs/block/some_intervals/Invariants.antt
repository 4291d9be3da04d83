use Rattle.std.proofs.Common.{◌≡◌, ◌-◌}
use Rattle.mysql_field_lists.specs.Lists.{elements_at}
use Rattle.mysql_replication.specs.Blocks.{interval_at}
use Rattle.mysql_field_lists.specs.ElementLaws.{with_front}
use Rattle.mysql_replication.proofs.block.some_intervals.Given as goal

abbrev pub invariant-loop : goal.invariant-loop
invariant-loop l =
    with_front l.intervals.items (elements_at interval_at (l.count - l.counter) l.rest.0.now) ≡
    elements_at interval_at l.count l.initial.rest.0.now
