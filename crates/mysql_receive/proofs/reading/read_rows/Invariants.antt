use Rattle.std.proofs.Common.{length}
use Rattle.mysql_receive.specs.Reading.{RowsAt}
use Rattle.mysql_receive.specs.Views.{sets_of}
use Rattle.mysql_receive.proofs.reading.read_rows.Given as goal

abbrev pub invariant-loop-rest : goal.invariant-loop-rest
invariant-loop-rest l = RowsAt l.types l.bytes (sets_of l.sets.items) l.rest

abbrev pub decreases-loop-rest : goal.decreases-loop-rest
decreases-loop-rest l = length l.rest
