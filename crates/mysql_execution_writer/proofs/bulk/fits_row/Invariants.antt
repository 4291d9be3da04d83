use Rattle.std.proofs.Common.{◌≡◌, drop}
use Rattle.mysql_executions.specs.Views.{types_by, types_of}
use Rattle.mysql_execution_writer.specs.Bulks.{is_row}
use Rattle.mysql_execution_writer.proofs.bulk.fits_row.Given as goal

abbrev pub invariant-loop-place : goal.invariant-loop-place
invariant-loop-place l = is_row (drop l.place (types_by (types_of l.own) l.s.types))
    (drop l.place l.row) ≡ is_row (types_by (types_of l.own) l.s.types) l.row
