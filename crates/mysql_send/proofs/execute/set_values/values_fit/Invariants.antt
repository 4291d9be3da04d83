use Rattle.std.proofs.Common.{drop, map}
use Rattle.std.specs.List.{AllByRecursion}
use Rattle.mysql_values.specs.Values.{FitsFields}
use Rattle.mysql_send.proofs.execute.set_values.values_fit.Given as goal

abbrev pub invariant-loop-value : goal.invariant-loop-value
invariant-loop-value g l =
    AllByRecursion (λ value. FitsFields value)
    (map g.V.HasValue.value (drop l.value-index l.values)) →
    AllByRecursion (λ value. FitsFields value) (map g.V.HasValue.value l.values)
