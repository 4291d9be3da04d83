-- What the crate's types hold, as values.
-- MySQL: Client/Server Protocol, "Text Resultset Row" and "Binary Protocol Resultset Row".
use Rattle.std.specs.Prelude.{List, map}
use Rattle.std.specs.Rc.{rc_slice_items}
use Rattle.std.specs.declared.alloc.Global.{Global}
use Rattle.std.specs.declared.rc.RcSlice.{RcSlice}
use Rattle.mysql_columns.specs.Columns.{ColumnDefinition}
use Rattle.mysql_columns.specs.Views.{column_view}
use Rattle.mysql_columns.specs.declared.column.Column.{Column}
use Rattle.mysql_rows.specs.declared.row.Row.{Row}
use Rattle.mysql_rows.specs.Rows as rows

abbrev pub column_views : List Column → List ColumnDefinition
column_views columns = map column_view columns

-- The columns that are shared.
abbrev pub shared_columns : RcSlice Column Global → List ColumnDefinition
shared_columns columns = column_views (rc_slice_items columns)

abbrev pub row_view : Row → rows.Row
row_view row = record { columns = shared_columns row.columns; cells = row.cells.items }
