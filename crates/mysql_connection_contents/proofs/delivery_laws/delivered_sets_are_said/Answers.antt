use Rattle.mysql_connection_contents.proofs.Saying.{delivered_sets_are_said}
use Rattle.mysql_connection_contents.proofs.delivery_laws.delivered_sets_are_said.Goals as goal

pub returns : goal.returns
returns c = delivered_sets_are_said c.executions_read.ensures c.requests_read.ensures
    c.written_cells_are_held.ensures c.streams_are_received.ensures
