use Rattle.std.proofs.Common.{length}
use Rattle.mysql_wire.proofs.Extents.{Behind}
use Rattle.mysql_wire.proofs.extent.extent_at.Given as goal

abbrev pub invariant-chunks : goal.invariant-chunks
invariant-chunks l = Behind l.limit l.number l.bytes l.full l.room l.due l.rest

abbrev pub decreases-chunks : goal.decreases-chunks
decreases-chunks l = length l.rest
