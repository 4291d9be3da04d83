-- Words of the reader's own body, which no public call's clause has: the rows so far of a result set that goes on.
-- MySQL: Client/Server Protocol, "Text Resultset" and "Binary Protocol Resultset".
use Rattle.std.specs.Prelude.{◌≡◌, List, [], map, Option, Some, None}
use Rattle.std.specs.declared.alloc.Global.{Global}
use Rattle.std.specs.declared.rc.RcSlice.{RcSlice}
use Rattle.mysql_columns.specs.Columns.{ColumnDefinition}
use Rattle.mysql_columns.specs.declared.column.Column.{Column}
use Rattle.mysql_rows.specs.Rows as rows
use Rattle.mysql_rows.specs.declared.row.Row.{Row}
use Rattle.mysql_rows.specs.Views.{row_view, shared_columns}

-- The columns and the rows so far.
pub record RowsSoFar : Type 0 where
  pub columns : List ColumnDefinition
  pub rows : List rows.Row

abbrev pub rows_of : List Row → List rows.Row
rows_of kept = map row_view kept

-- A second share is of the same columns; there is none only where there are no rows.
abbrev pub HasShare : RcSlice Column Global → Option (RcSlice Column Global) → List Row → Type 0
HasShare columns (Some share) kept = shared_columns share ≡ shared_columns columns
HasShare columns None kept = kept ≡ []
