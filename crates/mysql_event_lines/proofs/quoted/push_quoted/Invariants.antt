use Rattle.std.proofs.Common.{◌≡◌, ◌∷◌, ◌++◌, take, flat_map}
use Rattle.mysql_event_lines.specs.Quoted.{escaped, quote}
use Rattle.mysql_event_lines.proofs.quoted.push_quoted.Given as goal

abbrev pub invariant-loop-byte : goal.invariant-loop-byte
invariant-loop-byte l = l.out.items ≡ l.fn.out.items ++ quote ∷ flat_map escaped (take l.byte-index l.text)
