use Rattle.std.proofs.Common.{◌≡◌, drop}
use Rattle.std.specs.Prelude.{bytes_eq}
use Rattle.std.specs.List.{position_from}
use Rattle.mysql_rows.specs.Rows.{column_named}
use Rattle.mysql_rows.specs.Views.{column_views}
use Rattle.mysql_rows.proofs.column_index.first_named.Given as goal

abbrev pub invariant-loop-index : goal.invariant-loop-index
invariant-loop-index l = position_from (λ column. bytes_eq column.name l.name) l.index
    (column_views (drop l.index l.columns)) ≡ column_named l.name (column_views l.columns)
