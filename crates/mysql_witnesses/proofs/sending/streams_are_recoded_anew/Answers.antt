use Rattle.mysql_witnesses.proofs.AboutSending.{streams_are_not_copied, streams_are_prepared_once}
use Rattle.mysql_witnesses.proofs.sending.streams_are_recoded_anew.Goals as goal

pub returns-clause-copies : goal.returns-clause-copies
returns-clause-copies c = streams_are_not_copied c.tokens_of_a_text.ensures.one

pub returns-clause-prepares : goal.returns-clause-prepares
returns-clause-prepares c = streams_are_prepared_once
