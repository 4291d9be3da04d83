use Rattle.std.proofs.Common.{◌≡◌, drop}
use Rattle.mysql_bulk_builder.specs.RowLists.{rows_in}
use Rattle.mysql_bulk_builder.specs.ValueTypes.{first_in_column}
use Rattle.mysql_bulk_builder.proofs.first_values.first_in_column.Given as goal

-- the rows so far have none
abbrev pub invariant-loop-row : goal.invariant-loop-row
invariant-loop-row l = first_in_column l.column (rows_in l.rows) ≡
    first_in_column l.column (drop l.row-index (rows_in l.rows))
