use Rattle.std.proofs.Common.{◌≡◌, ◌++◌, map}
use Rattle.mysql_values.specs.Contents.{content_value}
use Rattle.mysql_recoding.proofs.whole.values_of_set.Given as goal

abbrev pub invariant-contents : goal.invariant-contents
invariant-contents l = (l.fn.set.items ≡ l.yielded ++ l.content-iterator.rest.items) ×
    (l.values.items ≡ map content_value l.yielded)
