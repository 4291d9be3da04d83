use Rattle.std.proofs.Common.{◌≡◌, length, map}
use Rattle.mysql_field_lists.specs.ElementLaws.{with_front}
use Rattle.mysql_ok_packets.specs.Reading.{to_end_at}
use Rattle.mysql_ok_packets.proofs.to_end.parse_to_end.Given as goal

abbrev pub invariant-loop-rest : goal.invariant-loop-rest
invariant-loop-rest g l =
    with_front (map g.T.Readable.shown l.items.items) (to_end_at (g.T.Readable.read_at tt) l.rest.0.now)
    ≡ to_end_at (g.T.Readable.read_at tt) l.initial.rest.0.now

abbrev pub decreases-loop-rest : goal.decreases-loop-rest
decreases-loop-rest g l = length l.rest.0.now
