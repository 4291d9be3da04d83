use Rattle.std.proofs.Common.{length}
use Rattle.mysql_queries.specs.Written.{written_byte}
use Rattle.mysql_literals.proofs.Escapes.{IsEscaped}
use Rattle.mysql_literals.proofs.quoting.put_escaped.Given as goal

abbrev pub invariant-loop-rest : goal.invariant-loop-rest
invariant-loop-rest l = IsEscaped (written_byte l.no_backslash_escape) l.initial.out.items l.out.items l.bytes l.rest

abbrev pub decreases-loop-rest : goal.decreases-loop-rest
decreases-loop-rest l = length l.rest
