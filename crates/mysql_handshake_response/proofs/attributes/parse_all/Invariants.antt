use Rattle.std.proofs.Common.{◌≡◌, length}
use Rattle.mysql_handshake_response.specs.Attributes.{all_attributes_at}
use Rattle.mysql_handshake_response.specs.AttributeViews.{attributes_view}
use Rattle.mysql_handshake_response.proofs.AttributeReading.{put_after}
use Rattle.mysql_handshake_response.proofs.attributes.parse_all.Given as goal

abbrev pub invariant-loop-pairs : goal.invariant-loop-pairs
invariant-loop-pairs l = put_after (attributes_view l.all) (all_attributes_at l.pairs.0.now) ≡
    all_attributes_at l.initial.pairs.0.now

abbrev pub decreases-loop-pairs : goal.decreases-loop-pairs
decreases-loop-pairs l = length l.pairs.0.now
