use Rattle.mysql_queries.proofs.Readings.{read_once, lexed_is_sliced, sliced_is_lexed}
use Rattle.mysql_queries.proofs.laws.one_reading.Goals as goal

pub returns-clause-at_most_one : goal.returns-clause-at_most_one
returns-clause-at_most_one c = read_once

pub returns-clause-lexed : goal.returns-clause-lexed
returns-clause-lexed c = lexed_is_sliced

pub returns-clause-sliced : goal.returns-clause-sliced
returns-clause-sliced c = sliced_is_lexed
