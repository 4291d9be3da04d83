use Rattle.std.proofs.Common.{◌≡◌, ◌++◌, [], length}
use Rattle.mysql_wire.specs.Incoming.{codec_by}
use Rattle.mysql_receive.specs.Views.{statement_view}
use Rattle.mysql_receive.proofs.Progressing.{Behind}
use Rattle.mysql_receive.proofs.incoming.read_payloads.Given as goal

-- the payloads that were handed out of what was held and the piece were read
abbrev pub invariant-packets : goal.invariant-packets
invariant-packets l = record {
  behind : Behind (statement_view l.statement) l.fn.packets.limit l.fn.progress
      (l.fn.packets.bytes ++ l.fn.piece) (codec_by l.packets) (l.packets.bytes ++
      l.rest) [] l.progress;
  limit : l.packets.limit ≡ l.fn.packets.limit;
  number : l.packets.number ≡ 0;
}

abbrev pub decreases-packets : goal.decreases-packets
decreases-packets l = length l.rest
