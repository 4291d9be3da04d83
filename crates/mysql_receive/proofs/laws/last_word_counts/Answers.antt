use Rattle.mysql_receive.proofs.Looking.{last_word_counts}
use Rattle.mysql_receive.proofs.laws.last_word_counts.Goals as goal

pub returns : goal.returns
returns c = last_word_counts
