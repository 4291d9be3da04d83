use Rattle.std.proofs.Common.{◌≡◌, drop}
use Rattle.std.specs.List.{flat_map}
use Rattle.mysql_executions.specs.Unclear.{cells_in_row, first_unclear}
use Rattle.mysql_executions.specs.Views.{rows_of, types_by, types_of}
use Rattle.mysql_executions.proofs.unclear.read_unclear_rows.Given as goal

abbrev pub invariant-loop-row : goal.invariant-loop-row
invariant-loop-row l =
    first_unclear 1 0 (flat_map (cells_in_row (types_by (types_of l.own) l.in_force)) (rows_of l.rows)) l.bytes
    ≡ first_unclear 1 l.first
    (flat_map (cells_in_row (types_by (types_of l.own) l.in_force))
    (rows_of (drop l.row-index l.rows))) l.rest
