use Rattle.std.proofs.Common.{◌≡◌, ◌-◌}
use Rattle.mysql_field_lists.specs.ElementLaws.{with_front}
use Rattle.mysql_field_lists.specs.Lists.{elements_at}
use Rattle.mysql_bulk_builder.specs.Reading.{param_type_at}
use Rattle.mysql_bulk_builder.proofs.request_reading.many_types.Given as goal

abbrev pub invariant-loop : goal.invariant-loop
invariant-loop l = with_front l.types.items
    (elements_at param_type_at (l.count - l.counter) l.rest.0.now) ≡
    elements_at param_type_at l.count l.initial.rest.0.now
