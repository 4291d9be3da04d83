use Rattle.std.proofs.Common.{◌≡◌, take, map}
use Rattle.mysql_bulk_builder.specs.Reading.{column_by}
use Rattle.mysql_bulk_builder.proofs.request_reading.columns_by.Given as goal

abbrev pub invariant-loop-sent : goal.invariant-loop-sent
invariant-loop-sent l = l.columns.items ≡ map column_by (take l.sent-index l.types)
