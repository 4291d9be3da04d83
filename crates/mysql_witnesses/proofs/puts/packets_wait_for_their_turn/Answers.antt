use Rattle.mysql_witnesses.proofs.AboutPuts.{packets_wait_for_their_turn}
use Rattle.mysql_witnesses.proofs.puts.packets_wait_for_their_turn.Goals as goal

pub returns : goal.returns
returns c = packets_wait_for_their_turn
