-- Rows that are kept, one after another.
-- MySQL: C API, mysql_store_result() and mysql_fetch_row().
use Rattle.std.specs.Prelude.{List, drop}
use Rattle.mysql_rows.specs.Rows.{Row}
use Rattle.mysql_row_refs.specs.declared.stored_iter.StoredIter.{StoredIter}

-- the rows that are still to come
abbrev pub rows_left : StoredIter → List Row
rows_left it = drop it.next it.stored.now.rows
