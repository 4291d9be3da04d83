use Rattle.std.proofs.Common.{◌≡◌, []}
use Rattle.mysql_bulk_builder.specs.ValueTypes.{first_values}
use Rattle.mysql_bulk_builder.specs.RowLists.{row_in}
use Rattle.mysql_bulk_builder.proofs.first_values.no_first_values.Given as goal

abbrev pub invariant-loop-column : goal.invariant-loop-column
invariant-loop-column l = row_in l.firsts.items ≡ first_values l._column []
