use Rattle.std.proofs.Common.{◌≡◌, ◌++◌, map}
use Rattle.mysql_receive.specs.Views.{sets_of}
use Rattle.mysql_recoding.specs.Causes.{values_of_sets}
use Rattle.mysql_recoding.proofs.whole.values_of_all.Given as goal

abbrev pub invariant-sets : goal.invariant-sets
invariant-sets l = (l.fn.sets.items ≡ l.yielded ++ l.set-iterator.rest.items) ×
    (map (λ values. values.items) l.all.items ≡ values_of_sets (sets_of l.yielded))
