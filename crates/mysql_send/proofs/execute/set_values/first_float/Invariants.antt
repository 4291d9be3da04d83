use Rattle.std.proofs.Common.{◌≡◌, drop, map}
use Rattle.std.specs.Prelude.{is_none}
use Rattle.std.specs.List.{position_from}
use Rattle.mysql_values.specs.Values.{content_of, first_float}
use Rattle.mysql_send.proofs.execute.set_values.first_float.Given as goal

abbrev pub invariant-loop-place : goal.invariant-loop-place
invariant-loop-place g l =
    position_from (λ value. is_none (content_of value)) l.place
    (map g.V.HasValue.value (drop l.place l.values)) ≡ first_float (map g.V.HasValue.value l.values)
