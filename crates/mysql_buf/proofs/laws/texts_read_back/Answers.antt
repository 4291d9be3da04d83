use Rattle.mysql_buf.specs.TextLaws.{null-reads_back, u8_str-reads_back, u32_str-reads_back}
use Rattle.mysql_buf.proofs.laws.texts_read_back.Goals as goal

pub returns-clause-counted : goal.returns-clause-counted
returns-clause-counted c text rest = (u8_str-reads_back text rest, u32_str-reads_back text rest)

pub returns-clause-null : goal.returns-clause-null
returns-clause-null c = null-reads_back
