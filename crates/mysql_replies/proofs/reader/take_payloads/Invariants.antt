use Rattle.std.proofs.Common.{◌≡◌, ◌++◌, [], length}
use Rattle.mysql_wire.specs.Incoming.{codec_by}
use Rattle.mysql_replies.specs.States.{IsOver}
use Rattle.mysql_replies.proofs.Receiving.{Taking}
use Rattle.mysql_replies.proofs.reader.take_payloads.Given as goal

abbrev pub invariant-packets : goal.invariant-packets
invariant-packets l = record {
  taking : Taking l.fn.state (codec_by l.fn.packets) (l.fn.packets.bytes ++ l.fn.piece) [] l.state
      (codec_by l.packets) (l.packets.bytes ++ l.rest) [];
  over : IsOver l.state → l.packets.bytes ≡ [];
}

abbrev pub decreases-packets : goal.decreases-packets
decreases-packets l = length l.rest
