use Rattle.mysql_reply_writer.proofs.FrontPayloads.{fronts_are_unfinished, longer_fronts_go_on}
use Rattle.mysql_reply_writer.proofs.fronts.payload_fronts_are_unfinished.Goals as goal

pub returns-clause-unfinished : goal.returns-clause-unfinished
returns-clause-unfinished c =
    fronts_are_unfinished c.answers_have_what_stands.ensures
    c.whole_replies_are_results.ensures.some

pub returns-clause-longer : goal.returns-clause-longer
returns-clause-longer c =
    longer_fronts_go_on c.answers_have_what_stands.ensures c.whole_replies_are_results.ensures.some
