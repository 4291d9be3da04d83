use Rattle.std.proofs.Common.{refl, arith, not, ◌&&◌}
use Rattle.mysql_queries.specs.Alone.{is_blank}
use Rattle.mysql_queries.specs.Scanning.{is_quiet}
use Rattle.mysql_queries.specs.declared.alone.TheConstants.{STANDING}
use Rattle.mysql_queries.proofs.ByteTables.{read}
use Rattle.mysql_queries.proofs.alone.standing.Goals as goal

pub returns : goal.returns
returns c = rw c.from.ensures (read (λ b. is_quiet b && not (is_blank b)) STANDING c.args.b refl (omega arith))
