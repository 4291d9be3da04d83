use Rattle.mysql_connection_contents.proofs.Counting.{counts_are_checked}
use Rattle.mysql_connection_contents.proofs.packet_laws.counts_are_checked.Goals as goal

pub returns : goal.returns
returns c = counts_are_checked c.machines_hear_what_they_put.ensures
