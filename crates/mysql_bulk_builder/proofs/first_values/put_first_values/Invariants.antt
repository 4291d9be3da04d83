use Rattle.std.proofs.Common.{length}
use Rattle.mysql_bulk_builder.specs.RowLists.{rows_in}
use Rattle.mysql_bulk_builder.specs.ValueTypes.{first_values}
use Rattle.mysql_bulk_builder.proofs.FirstValues.{Filled}
use Rattle.mysql_bulk_builder.proofs.first_values.put_first_values.Given as goal

abbrev pub invariant-loop-column : goal.invariant-loop-column
invariant-loop-column l =
    Filled l.initial.firsts l.firsts (first_values (length l.initial.firsts) (rows_in l.rows))
    l.column
