use Rattle.std.proofs.Common.{take}
use Rattle.std.specs.List.{AllByRecursion}
use Rattle.mysql_execution_writer.specs.Laws.{FitsBulkValue}
use Rattle.mysql_connection_writer.proofs.own.row_fits.Given as goal

abbrev pub invariant-loop-value : goal.invariant-loop-value
invariant-loop-value l = AllByRecursion (λ value. FitsBulkValue value) (take l.value-index l.row)
