use Rattle.mysql_connection_contents.proofs.Going.{clients_go_on}
use Rattle.mysql_connection_contents.proofs.packet_laws.clients_go_on.Goals as goal

pub returns : goal.returns
returns c = clients_go_on (record {
  stay = c.packets_stay.ensures;
  take = c.packets_take_bytes.ensures;
  follow = c.rests_follow.ensures;
}) c.framings_are_found.ensures c.puts_are_read.ensures c.numbers_are_bytes.ensures
