use Rattle.mysql_buf.specs.TextLaws.{lenenc_int-reads_back, lenenc_str-reads_back}
use Rattle.mysql_buf.proofs.laws.lenenc_reads_back.Goals as goal

pub returns-clause-number : goal.returns-clause-number
returns-clause-number c = lenenc_int-reads_back

pub returns-clause-text : goal.returns-clause-text
returns-clause-text c = lenenc_str-reads_back
