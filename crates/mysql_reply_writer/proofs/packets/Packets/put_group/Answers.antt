use Rattle.std.proofs.Common.{map}
use Rattle.std.proofs.lemmas.Result.{err_from_is_err_and}
use Rattle.mysql_columns.specs.Columns.{column}
use Rattle.mysql_replies.specs.Views.{column_views}
use Rattle.mysql_reply_writer.specs.Written.{eof_due}
use Rattle.mysql_reply_writer.specs.Views.{place_view}
use Rattle.mysql_reply_writer.proofs.Answers.{on_err, on_ok}
use Rattle.mysql_reply_writer.proofs.Putting.{first_refused, later_refused, two_put}
use Rattle.mysql_reply_writer.proofs.packets.Packets.put_group.Goals as goal

pub returns-in_err-put_columns-clause-err : goal.returns-in_err-put_columns-clause-err
returns-in_err-put_columns-clause-err c =
    let p = err_from_is_err_and c.from_residual.result c.from_residual.ensures.1 in
    rw (p.1, p.2) (first_refused c.args.self.now.limit (place_view c.args.self.now)
    (map column (column_views c.args.columns.now))
    (eof_due c.args.context (column_views c.args.columns.now)) c.in_err-put_columns.field-0.0
    c.in_err-put_columns.ensures.err)

pub returns-clause-ok : goal.returns-clause-ok
returns-clause-ok c =
    on_ok c.put_eof_due.result
    (two_put c.args.self.now.limit c.put_columns.new.self.limit (place_view c.args.self.now)
    (place_view c.put_columns.new.self) (place_view c.put_eof_due.new.self)
    (map column (column_views c.args.columns.now))
    (eof_due c.args.context (column_views c.args.columns.now))
    c.args.out.now.items c.put_columns.new.out.items c.put_eof_due.new.out.items
    c.put_columns.ensures.limit c.in_ok-put_columns.ensures.ok)
    c.put_eof_due.ensures.ok

pub returns-clause-err : goal.returns-clause-err
returns-clause-err c =
    on_err c.put_eof_due.result
    (λ e. later_refused c.args.self.now.limit c.put_columns.new.self.limit
    (place_view c.args.self.now) (place_view c.put_columns.new.self)
    (map column (column_views c.args.columns.now))
    (eof_due c.args.context (column_views c.args.columns.now))
    c.args.out.now.items c.put_columns.new.out.items e c.put_columns.ensures.limit c.in_ok-put_columns.ensures.ok)
    c.put_eof_due.ensures.err
