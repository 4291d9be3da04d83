use Rattle.mysql_connection_statements.proofs.Counting.{begins_counted, stays_counted_at_a_change}
use Rattle.mysql_connection_statements.proofs.Counting.{stays_counted_at_a_close, stays_counted_at_a_prepare}
use Rattle.mysql_connection_statements.proofs.Counting.{all_counted, columns_counted, executed_counted, lists_counted}
use Rattle.mysql_connection_statements.proofs.Counting.{long_data_counted, pending_counted, prepared_counted}
use Rattle.mysql_connection_statements.proofs.Counting.{reset_counted, taken_back_counted}
use Rattle.mysql_connection_statements.proofs.laws.kept_lists_are_counted.Goals as goal

pub returns-clause-prepare : goal.returns-clause-prepare
returns-clause-prepare c = prepared_counted

pub returns-clause-execution : goal.returns-clause-execution
returns-clause-execution c = executed_counted

pub returns-clause-long_data : goal.returns-clause-long_data
returns-clause-long_data c = long_data_counted

pub returns-clause-reset : goal.returns-clause-reset
returns-clause-reset c = reset_counted

pub returns-clause-columns : goal.returns-clause-columns
returns-clause-columns c = columns_counted

pub returns-clause-pending : goal.returns-clause-pending
returns-clause-pending c = pending_counted

pub returns-clause-refusal : goal.returns-clause-refusal
returns-clause-refusal c = taken_back_counted

pub returns-clause-lists : goal.returns-clause-lists
returns-clause-lists c = lists_counted

pub returns-clause-all : goal.returns-clause-all
returns-clause-all c = all_counted

pub returns-clause-begins : goal.returns-clause-begins
returns-clause-begins c = begins_counted

pub returns-clause-put : goal.returns-clause-put
returns-clause-put c = stays_counted_at_a_prepare

pub returns-clause-change : goal.returns-clause-change
returns-clause-change c = stays_counted_at_a_change

pub returns-clause-close : goal.returns-clause-close
returns-clause-close c = stays_counted_at_a_close
