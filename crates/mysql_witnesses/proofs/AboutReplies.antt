-- Rows that are borrowed.
use Rattle.std.proofs.Common.{ap, ◌∙◌}
use Rattle.mysql_replies.specs.Holding.{count_of}
use Rattle.mysql_witnesses.specs.Replies.{BorrowedRowsAreCounted, BorrowedRowsAreNotKept}

pub borrowed_rows_are_counted : BorrowedRowsAreCounted
borrowed_rows_are_counted old new piece rest row borrowed = ap count_of borrowed.going ∙ borrowed.feeds.takes.count

pub borrowed_rows_are_not_kept : BorrowedRowsAreNotKept
borrowed_rows_are_not_kept old new piece rest r e h = h.keeps_none ∙ e
