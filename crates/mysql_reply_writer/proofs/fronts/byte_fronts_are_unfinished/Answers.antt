use Rattle.mysql_reply_writer.proofs.FrontPayloads.{fronts_are_unfinished, longer_fronts_go_on}
use Rattle.mysql_reply_writer.proofs.FrontBytes.{framed_fronts_are_unfinished, framed_replies_are_whole}
use Rattle.mysql_reply_writer.proofs.FrontBytes.{longer_framed_fronts_go_on}
use Rattle.mysql_reply_writer.proofs.fronts.byte_fronts_are_unfinished.Goals as goal

pub returns-clause-unfinished : goal.returns-clause-unfinished
returns-clause-unfinished c =
    framed_fronts_are_unfinished c.fronts_split.ensures
    (fronts_are_unfinished c.answers_have_what_stands.ensures
    c.whole_replies_are_results.ensures.some)

pub returns-clause-longer : goal.returns-clause-longer
returns-clause-longer c =
    longer_framed_fronts_go_on c.fronts_split.ensures
    (longer_fronts_go_on c.answers_have_what_stands.ensures
    c.whole_replies_are_results.ensures.some)

pub returns-clause-whole : goal.returns-clause-whole
returns-clause-whole c =
    framed_replies_are_whole c.fronts_split.ensures c.reader_laws.ensures.rests c.whole_replies_are_results.ensures.some
