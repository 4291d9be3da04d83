use Rattle.mysql_session.proofs.WritingTo.{failed_writers_are_read}
use Rattle.mysql_session.proofs.laws.failed_writers_are_read.Goals as goal

pub returns : goal.returns
returns c = failed_writers_are_read c.readable_sets_are_delivered.ensures
    c.stream_has_one_audit.ensures c.tokens_of_a_text.ensures.one c.one_count_stands_whole.ensures
