use Rattle.mysql_buf.specs.NumberLaws.{big-signed-reads_back, little-signed-reads_back}
use Rattle.mysql_buf.proofs.laws.signed_numbers_read_back.Goals as goal

pub returns-clause-little : goal.returns-clause-little
returns-clause-little c width n low high z rest fits = little-signed-reads_back width n z rest low high fits

pub returns-clause-big : goal.returns-clause-big
returns-clause-big c width n low high z rest fits = big-signed-reads_back width n z rest low high fits
