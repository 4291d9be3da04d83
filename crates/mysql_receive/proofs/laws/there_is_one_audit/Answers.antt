use Rattle.mysql_receive.proofs.Auditing.{some_audit, one_audit}
use Rattle.mysql_receive.proofs.Readable.{readable}
use Rattle.mysql_receive.proofs.laws.there_is_one_audit.Goals as goal

pub returns : goal.returns
returns a c s first payloads rest is =
    let readable_query = readable a.texts_are_decided.ensures a.one_reading.ensures.at_most_one
    a.one_reading.ensures.sliced a.tokens_of_a_text.ensures.places c.query is in
    let found = some_audit c readable_query payloads s first rest in (
      found.0,
      found.1,
      λ b h. one_audit c readable_query s first payloads rest b found.0 h
          found.1,
    )
