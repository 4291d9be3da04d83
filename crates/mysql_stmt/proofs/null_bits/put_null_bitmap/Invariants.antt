use Rattle.std.proofs.Common.{◌≡◌, ◌++◌, map}
use Rattle.mysql_stmt.proofs.Bitmaps.{first_bytes}
use Rattle.mysql_stmt.proofs.null_bits.put_null_bitmap.Given as goal

abbrev pub invariant-loop-k : goal.invariant-loop-k
invariant-loop-k g l = l.out.items ≡ l.fn.out.items ++ first_bytes (map g.V.HasValue.value l.values) l.k
