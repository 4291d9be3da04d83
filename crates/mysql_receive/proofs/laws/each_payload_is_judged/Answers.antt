use Rattle.mysql_receive.proofs.Judging.{is_judged}
use Rattle.mysql_receive.proofs.Readable.{readable}
use Rattle.mysql_receive.proofs.laws.each_payload_is_judged.Goals as goal

pub returns : goal.returns
returns a c s number payload is =
    is_judged c s number payload
    (readable a.texts_are_decided.ensures a.one_reading.ensures.at_most_one
    a.one_reading.ensures.sliced a.tokens_of_a_text.ensures.places c.query is)
