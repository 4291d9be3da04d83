use Rattle.std.proofs.Common.{◌≡◌, drop}
use Rattle.std.specs.List.{list_all}
use Rattle.mysql_executions.specs.Views.{rows_of, types_by, types_of}
use Rattle.mysql_execution_writer.specs.Bulks.{is_row}
use Rattle.mysql_execution_writer.proofs.bulk.fit_rows.Given as goal

abbrev pub invariant-loop-row : goal.invariant-loop-row
invariant-loop-row l = list_all (is_row (types_by (types_of l.own) l.s.types))
    (rows_of (drop l.row-index l.rows)) ≡
    list_all (is_row (types_by (types_of l.own) l.s.types)) (rows_of l.rows)
