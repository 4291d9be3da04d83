use Rattle.std.proofs.Common.{◌≡◌, ◌++◌, map, drop}
use Rattle.mysql_values.proofs.params.copies.Given as goal

abbrev pub invariant-loop-value : goal.invariant-loop-value
invariant-loop-value l = map (λ value. value.now) l.values ≡ l.copies.items ++
    map (λ value. value.now) (drop l.value-index l.values)
