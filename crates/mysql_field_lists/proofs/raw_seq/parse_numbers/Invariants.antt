use Rattle.std.proofs.Common.{◌≡◌, ◌-◌}
use Rattle.mysql_field_lists.specs.Lists.{elements_at}
use Rattle.mysql_field_lists.specs.ElementLaws.{with_front}
use Rattle.mysql_field_lists.proofs.raw_seq.parse_numbers.Given as goal

abbrev pub invariant-loop : goal.invariant-loop
invariant-loop g l =
    with_front l.items.items (elements_at g.T.IntRepr.form.read_at (l.count - l.counter) l.rest.0.now)
    ≡ elements_at g.T.IntRepr.form.read_at l.count l.initial.rest.0.now
