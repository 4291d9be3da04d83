use Rattle.mysql_witnesses.proofs.AboutPuts.{rows_are_not_put_under_other_columns}
use Rattle.mysql_witnesses.proofs.puts.rows_are_not_put_under_other_columns.Goals as goal

pub returns : goal.returns
returns c = rows_are_not_put_under_other_columns
