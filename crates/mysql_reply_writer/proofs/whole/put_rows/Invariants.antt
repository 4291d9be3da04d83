use Rattle.std.proofs.Common.{◌≡◌, drop, map}
use Rattle.mysql_replies.specs.Views.{row_views}
use Rattle.mysql_reply_writer.specs.Written.{RowStep}
use Rattle.mysql_reply_writer.specs.Writer.{columns_of}
use Rattle.mysql_reply_writer.proofs.Steps.{WroteSoFar}
use Rattle.mysql_reply_writer.proofs.whole.put_rows.Given as goal

abbrev pub invariant-rows : goal.invariant-rows
invariant-rows l =
    (columns_of l.writer.so_far.rows ≡ columns_of l.fn.writer.so_far.rows)
    × WroteSoFar l.fn.writer (map (RowStep (columns_of l.fn.writer.so_far.rows)) (row_views l.rows)) l.writer
    (map (RowStep (columns_of l.fn.writer.so_far.rows)) (row_views (drop l.row-index l.rows)))
    l.fn.out.items l.out.items
