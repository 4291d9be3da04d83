use Rattle.mysql_reply_writer.proofs.reply_laws.written_replies_read_back.Goals as goal

pub returns : goal.returns
returns c r first_id limit results progress plain fit none =
    c.whole_bytes_are_framed_results.ensures.some r first_id limit _ _ _
    (c.written_replies_are_whole.ensures.framed r first_id limit results progress plain fit
    none)
