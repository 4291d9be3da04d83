use Rattle.std.proofs.Common.{◌≡◌, drop}
use Rattle.mysql_field_lists.specs.ElementLaws.{with_front}
use Rattle.mysql_bulk_builder.specs.Reading.{each_at, bulk_value_at}
use Rattle.mysql_bulk_builder.proofs.reading.row_of.Given as goal

abbrev pub invariant-loop-column : goal.invariant-loop-column
invariant-loop-column l =
    with_front l.row.items (each_at bulk_value_at (drop l.column-index l.columns) l.rest.0.now) ≡
    each_at bulk_value_at l.columns l.initial.rest.0.now
