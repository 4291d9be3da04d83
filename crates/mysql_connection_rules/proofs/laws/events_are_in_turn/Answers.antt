use Rattle.mysql_connection_rules.proofs.Turns.{events_are_in_turn}
use Rattle.mysql_connection_rules.proofs.laws.events_are_in_turn.Goals as goal

pub returns : goal.returns
returns c = events_are_in_turn
