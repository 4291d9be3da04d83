use Rattle.std.proofs.Common.{take}
use Rattle.std.specs.List.{AllByRecursion}
use Rattle.mysql_cells.specs.Values.{FitsFields}
use Rattle.mysql_cells.proofs.laws.all_fields_fit.Given as goal

abbrev pub invariant-loop-value : goal.invariant-loop-value
invariant-loop-value l = AllByRecursion (λ value. FitsFields value) (take l.value-index l.values)
