use Rattle.std.proofs.Common.{◌≡◌, ◌++◌, ◌≤◌, [], length}
use Rattle.mysql_wire.specs.Incoming.{codec_by}
use Rattle.mysql_replies.specs.Borrowing.{rows_listed}
use Rattle.mysql_replies.specs.States.{IsOver, reply_so_far}
use Rattle.mysql_replies.proofs.Receiving.{Taking}
use Rattle.mysql_replies.proofs.reader.ReaderParts.take_to_row.Given as goal

abbrev pub invariant-packets : goal.invariant-packets
invariant-packets l = record {
  taking : Taking l.fn.self.state (codec_by l.fn.self.packets) (l.fn.self.packets.bytes ++
      l.fn.rest.now) [] l.self.state (codec_by l.self.packets) (l.self.packets.bytes ++
      l.rest.now) [];
  over : IsOver l.self.state → l.self.packets.bytes ≡ [];
  keeps_none : rows_listed (reply_so_far l.self.state) ≡ rows_listed (reply_so_far l.fn.self.state);
  shorter : length l.rest.now ≤ length l.fn.rest.now;
}

abbrev pub decreases-packets : goal.decreases-packets
decreases-packets l = length l.rest.now
