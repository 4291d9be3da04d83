use Rattle.std.proofs.Common.{refl, arith}
use Rattle.mysql_queries.specs.Queries.{is_joining}
use Rattle.mysql_queries.specs.declared.placeholders.TheConstants.{JOINING}
use Rattle.mysql_queries.proofs.ByteTables.{read}
use Rattle.mysql_queries.proofs.placeholders.joining.Goals as goal

pub returns : goal.returns
returns c = rw c.from.ensures (read is_joining JOINING c.args.b refl (omega arith))
