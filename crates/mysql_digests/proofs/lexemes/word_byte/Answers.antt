use Rattle.std.proofs.Common.{refl, arith}
use Rattle.mysql_digests.specs.Digest.{is_word_byte}
use Rattle.mysql_digests.specs.declared.lexemes.TheConstants.{WORD}
use Rattle.mysql_queries.proofs.ByteTables.{read}
use Rattle.mysql_digests.proofs.lexemes.word_byte.Goals as goal

pub returns : goal.returns
returns c = rw c.from.ensures (read is_word_byte WORD c.args.b refl (omega arith))
