use Rattle.std.proofs.Common.{refl, arith}
use Rattle.mysql_queries.specs.Tokens.{is_simple_byte}
use Rattle.mysql_queries.specs.declared.tokens.TheConstants.{SIMPLE}
use Rattle.mysql_queries.proofs.ByteTables.{read}
use Rattle.mysql_queries.proofs.tokens.is_simple_one.Goals as goal

pub returns : goal.returns
returns c = rw c.from.ensures (read is_simple_byte SIMPLE c.args.b refl (omega arith))
