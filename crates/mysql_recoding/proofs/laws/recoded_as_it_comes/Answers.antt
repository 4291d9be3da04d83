use Rattle.mysql_recoding.proofs.CausesAgree.{agree, query_refused, recoded_passes}
use Rattle.mysql_recoding.proofs.ComesOn.{pieces_recode}
use Rattle.mysql_recoding.proofs.laws.recoded_as_it_comes.Goals as goal

pub returns : goal.returns
returns c = record {
  pieces_recode = pieces_recode c.reader_laws.ensures.one_split c.reader_laws.ensures.rests
      c.there_is_one_audit.ensures c.start_decides_the_audit.ensures;
  queries_refuse = query_refused c.stream_has_one_audit.ensures;
  recoded_pass = recoded_passes c.stream_has_one_audit.ensures c.tokens_of_a_text.ensures.one;
  causes_agree = agree;
}
