use Rattle.std.proofs.Common.{take}
use Rattle.std.specs.List.{AllByRecursion}
use Rattle.mysql_execution_writer.specs.Laws.{FitsBulkValue}
use Rattle.mysql_connection_writer.proofs.own.rows_fit.Given as goal

abbrev pub invariant-loop-row : goal.invariant-loop-row
invariant-loop-row l =
    AllByRecursion (λ row. AllByRecursion (λ value. FitsBulkValue value) row.items) (take l.row-index l.rows)
