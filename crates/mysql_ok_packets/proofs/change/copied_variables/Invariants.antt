use Rattle.std.proofs.Common.{◌≡◌, map, take}
use Rattle.mysql_ok_packets.specs.SessionStateViews.{variable_view}
use Rattle.mysql_ok_packets.proofs.change.copied_variables.Given as goal

abbrev pub invariant-loop-one : goal.invariant-loop-one
invariant-loop-one l = map variable_view l.copies.items ≡ map variable_view (take l.one-index l.all)
