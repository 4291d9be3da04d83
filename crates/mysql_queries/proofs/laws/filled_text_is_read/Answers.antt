use Rattle.mysql_queries.proofs.TextReading.{filled_is_read}
use Rattle.mysql_queries.proofs.laws.filled_text_is_read.Goals as goal

pub returns : goal.returns
returns c = filled_is_read
