use Rattle.mysql_receive.proofs.Feeding.{one_of_stream}
use Rattle.mysql_receive.proofs.Readable.{readable}
use Rattle.mysql_receive.proofs.laws.stream_has_one_audit.Goals as goal

pub returns : goal.returns
returns a c limit bytes is are =
    one_of_stream a.reader_laws.ensures c limit
    (readable a.texts_are_decided.ensures a.one_reading.ensures.at_most_one
    a.one_reading.ensures.sliced a.tokens_of_a_text.ensures.places c.query is) bytes are
