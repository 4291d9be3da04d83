use Rattle.std.proofs.Common.{◌≡◌, ◌++◌, map}
use Rattle.std.specs.Vec.Iter.{into_iter_items}
use Rattle.mysql_ok_packets.specs.SessionStateViews.{variable_view}
use Rattle.mysql_ok_packets.proofs.change.owned_variables.Given as goal

abbrev pub invariant-loop-one : goal.invariant-loop-one
invariant-loop-one l = map variable_view l.same.items ++
    map variable_view (into_iter_items l.one-iterator) ≡ map variable_view l.fn.all.items
