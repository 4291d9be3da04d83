use Rattle.std.proofs.Common.{◌≡◌}
use Rattle.mysql_bulk_builder.specs.Bulk.{column_type}
use Rattle.mysql_bulk_builder.proofs.Columns.{so_far}
use Rattle.mysql_bulk_builder.proofs.flat_values.column_type_of.Given as goal

abbrev pub invariant-loop-row : goal.invariant-loop-row
invariant-loop-row l = l.found ≡ column_type (so_far l.arity l.values l.column l.row)
