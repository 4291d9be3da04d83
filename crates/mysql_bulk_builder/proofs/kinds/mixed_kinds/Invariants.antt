use Rattle.std.proofs.Common.{◌≡◌, take}
use Rattle.mysql_bulk_builder.proofs.MixedKinds.{NoneBefore}
use Rattle.mysql_bulk_builder.specs.ValueTypes.{first_values}
use Rattle.mysql_bulk_builder.specs.RowLists.{row_in, rows_in}
use Rattle.mysql_bulk_builder.proofs.kinds.mixed_kinds.Given as goal

abbrev pub invariant-loop-set : goal.invariant-loop-set
invariant-loop-set l = record {
  firsts : row_in l.firsts.items ≡ first_values l.columns (take l.set (rows_in l.rows));
  none : NoneBefore (rows_in l.rows) l.set;
}
