use Rattle.std.proofs.Common.{take, ◌∷◌}
use Rattle.std.specs.Fmt.{HasWritten, IsPlainFormatter}
use Rattle.std.specs.List.{flat_map}
use Rattle.mysql_replication.specs.Intervals.{interval_text}
use Rattle.mysql_replication.proofs.sid.IntervalsPartDisplay.fmt.Given as goal

abbrev pub invariant-loop-interval : goal.invariant-loop-interval
invariant-loop-interval g l =
    IsPlainFormatter l.initial.f
    → HasWritten g.W.Write.write_str_gives l.initial.f
    (flat_map (λ interval. 58 ∷ interval_text interval)
    (take l.interval-index l.interval-items)) l.f
