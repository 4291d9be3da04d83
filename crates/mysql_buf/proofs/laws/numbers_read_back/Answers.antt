use Rattle.mysql_buf.specs.NumberLaws.{big-reads_back, little-reads_back}
use Rattle.mysql_buf.proofs.laws.numbers_read_back.Goals as goal

pub returns-clause-little : goal.returns-clause-little
returns-clause-little c n = little-reads_back n

pub returns-clause-big : goal.returns-clause-big
returns-clause-big c n = big-reads_back n
