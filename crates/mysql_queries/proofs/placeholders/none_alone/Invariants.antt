use Rattle.std.proofs.Common.{◌≡◌, map, take}
use Rattle.mysql_queries.specs.Placing.{not_alone}
use Rattle.mysql_queries.proofs.placeholders.none_alone.Given as goal

abbrev pub invariant-loop-place : goal.invariant-loop-place
invariant-loop-place l = l.found.items ≡ map not_alone (take l.place-index l.places)
