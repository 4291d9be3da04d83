use Rattle.mysql_buf.specs.TextLaws.{lenenc_int-shortest}
use Rattle.mysql_buf.specs.VarlenLaws.{varlen-shortest}
use Rattle.mysql_buf.proofs.laws.shortest_spellings.Goals as goal

pub returns-clause-lenenc : goal.returns-clause-lenenc
returns-clause-lenenc c = lenenc_int-shortest

pub returns-clause-varlen : goal.returns-clause-varlen
returns-clause-varlen c = varlen-shortest
