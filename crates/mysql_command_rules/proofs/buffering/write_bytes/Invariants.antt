-- What is gone from the rest was written.
use Rattle.std.proofs.Common.{◌≡◌, List, ℕ, ◌++◌}
use Rattle.std.specs.Io.KnownBytes.{Appends}
use Rattle.mysql_command_rules.proofs.buffering.write_bytes.Given as goal

abbrev pub invariant-writes : goal.invariant-writes
invariant-writes g l = (done : List ℕ) × (l.fn.bytes ≡ done ++ l.rest) ×
    Appends (g.W.Write.contents l.fn.to) (g.W.Write.contents l.to) done
