use Rattle.std.proofs.Common.{map}
use Rattle.mysql_send.proofs.MoreSets.{MoreSent}
use Rattle.mysql_send.proofs.execute.executions.put_value_sets.Given as goal

abbrev pub invariant-sets : goal.invariant-sets
invariant-sets l = MoreSent l.id (record { places = l.places; bytes = l.room }) l.first
    (map (λ set. set.items) l.sets) l.fn.out.items l.out.items l.index
