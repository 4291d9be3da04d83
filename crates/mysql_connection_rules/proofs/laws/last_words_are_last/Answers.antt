use Rattle.mysql_connection_rules.proofs.LastWords.{last_words_are_last, unasked_is_behind_the_end}
use Rattle.mysql_connection_rules.proofs.laws.last_words_are_last.Goals as goal

pub returns-clause-last : goal.returns-clause-last
returns-clause-last c = last_words_are_last

pub returns-clause-unasked : goal.returns-clause-unasked
returns-clause-unasked c = unasked_is_behind_the_end
