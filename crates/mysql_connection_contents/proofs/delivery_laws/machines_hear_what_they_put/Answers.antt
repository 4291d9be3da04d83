use Rattle.mysql_connection_contents.proofs.Putting.{machines_hear_what_they_put}
use Rattle.mysql_connection_contents.proofs.delivery_laws.machines_hear_what_they_put.Goals as goal

pub returns : goal.returns
returns c = machines_hear_what_they_put c.packets_stay.ensures c.framings_are_found.ensures
    c.puts_are_read.ensures c.numbers_are_bytes.ensures
