use Rattle.std.proofs.Common.{◌≡◌, Bool, false, take, flat_map}
use Rattle.mysql_queries.specs.Written.{written_byte}
use Rattle.mysql_literals.proofs.quoting.is_plain.Given as goal

abbrev pub invariant-loop-byte : goal.invariant-loop-byte
invariant-loop-byte l = l.special ≡ false → (mode : Bool) →
    flat_map (written_byte mode) (take l.byte-index l.bytes) ≡ take l.byte-index l.bytes
