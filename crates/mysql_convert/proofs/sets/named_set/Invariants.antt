use Rattle.std.proofs.Common.{map, take, drop}
use Rattle.mysql_convert.proofs.Pairs.{Kept}
use Rattle.mysql_convert.proofs.sets.named_set.Given as goal

abbrev pub invariant-loop-place : goal.invariant-loop-place
invariant-loop-place g l =
    Kept (map (λ pair. (g.N.AsSlice.items pair.0, g.V.ToValue.as_value pair.1)) (take l.place l.pairs))
    (map (λ pair. (g.N.AsSlice.items pair.0, g.V.ToValue.as_value pair.1)) (drop l.place l.pairs))
    (map (λ pair. (g.N.AsSlice.items pair.0, g.V.ToValue.as_value pair.1)) l.pairs)
    l.entries.entries
    l.first_long
