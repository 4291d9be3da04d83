use Rattle.mysql_connection_contents.proofs.PutValues.{put_values_are_executed}
use Rattle.mysql_connection_contents.proofs.delivery_laws.put_values_are_executed.Goals as goal

pub returns : goal.returns
returns c = put_values_are_executed
