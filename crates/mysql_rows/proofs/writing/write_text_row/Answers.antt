use Rattle.std.proofs.Common.{List, map, subst}
use Rattle.std.specs.Prelude.{Some}
use Rattle.mysql_cells.specs.declared.value.Value.{Value}
use Rattle.mysql_rows.specs.CellsWritten.{PutsRow}
use Rattle.mysql_rows.specs.Written.{text_cause, text_row}
use Rattle.mysql_rows.proofs.WholeRows.{values_of_some}
use Rattle.mysql_rows.proofs.writing.write_text_row.Goals as goal

pub returns : goal.returns
returns c =
    subst (λ (values : List Value). PutsRow (text_cause (map Some c.args.values.now))
    (text_row values) c.args.out.now.items c.write_text.new.out.items c.write_text.result)
    (values_of_some c.args.values.now) c.write_text.ensures
