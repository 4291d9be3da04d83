use Rattle.mysql_stmt.proofs.Bitmaps.{Bits}
use Rattle.mysql_stmt.proofs.null_bits.null_byte.Given as goal

abbrev pub invariant-loop-place : goal.invariant-loop-place
invariant-loop-place g l = Bits g.V.HasValue.value l.values l.place l.byte l.bit
