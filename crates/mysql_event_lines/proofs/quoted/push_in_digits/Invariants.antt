use Rattle.std.proofs.Common.{◌≡◌, ◌∷◌, ◌++◌, take, flat_map}
use Rattle.mysql_event_lines.specs.Quoted.{digits_of}
use Rattle.mysql_event_lines.proofs.quoted.push_in_digits.Given as goal

abbrev pub invariant-loop-byte : goal.invariant-loop-byte
invariant-loop-byte l = l.out.items ≡ l.fn.out.items ++ 0x78 ∷ flat_map digits_of (take l.byte-index l.bytes)
