use Rattle.std.proofs.Common.{refl, arith}
use Rattle.mysql_queries.specs.Scanning.{is_quiet}
use Rattle.mysql_queries.specs.declared.tokens.TheConstants.{QUIET}
use Rattle.mysql_queries.proofs.ByteTables.{read}
use Rattle.mysql_queries.proofs.tokens.is_quiet.Goals as goal

pub returns : goal.returns
returns c = rw c.from.ensures (read is_quiet QUIET c.args.b refl (omega arith))
