use Rattle.mysql_buf.specs.VarlenLaws.{varlen-reads_back}
use Rattle.mysql_buf.proofs.laws.varlen_reads_back.Goals as goal

pub returns : goal.returns
returns c = varlen-reads_back
