use Rattle.std.proofs.Common.{◌≡◌, ◌++◌, drop}
use Rattle.mysql_rows.specs.Views.{column_views}
use Rattle.mysql_reply_events.proofs.behind.copies_of.Given as goal

abbrev pub invariant-loop-column : goal.invariant-loop-column
invariant-loop-column l = column_views l.columns ≡ column_views l.copies.items ++
    column_views (drop l.column-index l.columns)
