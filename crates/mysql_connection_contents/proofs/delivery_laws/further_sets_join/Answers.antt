use Rattle.mysql_connection_contents.proofs.Joining.{further_sets_join}
use Rattle.mysql_connection_contents.proofs.delivery_laws.further_sets_join.Goals as goal

pub returns : goal.returns
returns c = further_sets_join c.tokens_of_a_text.ensures.one
