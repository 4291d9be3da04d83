use Rattle.std.proofs.Common.{List, map, subst}
use Rattle.std.specs.Prelude.{Some}
use Rattle.mysql_cells.specs.declared.value.Value.{Value}
use Rattle.mysql_rows.specs.CellsWritten.{PutsRow}
use Rattle.mysql_rows.specs.Views.{column_views}
use Rattle.mysql_rows.specs.Written.{binary_cause, binary_row}
use Rattle.mysql_rows.proofs.WholeRows.{values_of_some}
use Rattle.mysql_rows.proofs.writing.write_binary_row.Goals as goal

pub returns : goal.returns
returns c =
    subst (λ (values : List Value). PutsRow
    (binary_cause (column_views c.args.columns.now) (map Some c.args.values.now))
    (binary_row (column_views c.args.columns.now) values) c.args.out.now.items
    c.write_binary.new.out.items c.write_binary.result)
    (values_of_some c.args.values.now) c.write_binary.ensures
