use Rattle.mysql_command_rules.proofs.JoinedStreams.{joined}
use Rattle.mysql_command_rules.proofs.laws.sent_streams_join.Goals as goal

pub returns : goal.returns
returns c = joined c.tokens_of_a_text.ensures.one c.whole_streams_join.ensures
