use Rattle.mysql_connection_contents.proofs.Promise.{put_sets_are_read}
use Rattle.mysql_connection_contents.proofs.delivery_laws.put_sets_are_read.Goals as goal

pub returns : goal.returns
returns c = put_sets_are_read c.three_agree.ensures c.machines_hear.ensures c.delivered_sets_are_said.ensures
