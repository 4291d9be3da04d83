use Rattle.mysql_connection_statements.proofs.Sums.{begins_summed, changed_summed, closed_summed, put_summed}
use Rattle.mysql_connection_statements.specs.Statements.{forgetting_last}
use Rattle.mysql_connection_statements.proofs.laws.stored_is_the_sum.Goals as goal

pub returns-clause-begins : goal.returns-clause-begins
returns-clause-begins c = begins_summed

pub returns-clause-prepare : goal.returns-clause-prepare
returns-clause-prepare c = λ id statement s summed. put_summed (forgetting_last s) summed id statement

pub returns-clause-change : goal.returns-clause-change
returns-clause-change c = λ id change s summed. changed_summed s summed id change

pub returns-clause-close : goal.returns-clause-close
returns-clause-close c = λ id s summed. closed_summed s summed id
