use Rattle.std.proofs.Common.{◌≡◌, ◌++◌, Some, map}
use Rattle.mysql_rows.proofs.row.Row.unwrap.Given as goal

abbrev pub invariant-loop-cell : goal.invariant-loop-cell
invariant-loop-cell l = map Some l.values.items ++ l.cell-iterator.rest.items ≡ l.fn.self.cells.items
