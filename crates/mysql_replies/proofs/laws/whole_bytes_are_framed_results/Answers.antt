use Rattle.mysql_replies.proofs.ManualBytes.{each_framing, only_framings}
use Rattle.mysql_replies.proofs.laws.whole_bytes_are_framed_results.Goals as goal

pub returns-clause-some : goal.returns-clause-some
returns-clause-some c = each_framing c.reader_laws.ensures.rests c.whole_replies_are_results.ensures.some

pub returns-clause-only : goal.returns-clause-only
returns-clause-only c = only_framings c.reader_laws.ensures.rests c.whole_replies_are_results.ensures.only
