use Rattle.mysql_reply_writer.proofs.Replies.{is_framed, is_whole}
use Rattle.mysql_reply_writer.proofs.Rows.{rows_read_back}
use Rattle.mysql_reply_writer.proofs.reply_laws.written_replies_are_whole.Goals as goal

pub returns-clause-whole : goal.returns-clause-whole
returns-clause-whole c = is_whole
    (rows_read_back c.text_rows_read_back.ensures c.binary_rows_read_back.ensures
    c.text_rows_begin.ensures c.binary_rows_begin.ensures)

pub returns-clause-framed : goal.returns-clause-framed
returns-clause-framed c =
    is_framed (rows_read_back c.text_rows_read_back.ensures c.binary_rows_read_back.ensures
    c.text_rows_begin.ensures c.binary_rows_begin.ensures)
