use Rattle.std.proofs.Common.{◌≡◌, ◌-◌, map}
use Rattle.mysql_field_lists.specs.Lists.{elements_at}
use Rattle.mysql_field_lists.specs.ElementLaws.{with_front}
use Rattle.mysql_field_lists.proofs.lists.parse_elements.Given as goal

abbrev pub invariant-loop : goal.invariant-loop
invariant-loop g l =
    with_front (map g.T.Readable.shown l.items.items)
    (elements_at (g.T.Readable.read_at tt) (l.count - l.counter) l.rest.0.now)
    ≡ elements_at (g.T.Readable.read_at tt) l.count l.initial.rest.0.now
