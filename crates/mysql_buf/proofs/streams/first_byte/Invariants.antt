use Rattle.std.specs.Io.KnownBytes.{Keeps}
use Rattle.mysql_buf.proofs.streams.first_byte.Given as goal

-- nothing was taken so far
abbrev pub invariant-tries : goal.invariant-tries
invariant-tries g l = Keeps (g.R.Read.remaining l.fn.reader) (g.R.Read.remaining l.reader)
