use Rattle.std.proofs.Common.{[], take, None}
use Rattle.std.specs.List.{flat_map}
use Rattle.mysql_wire.specs.Stream.Numbering.{OnFrom}
use Rattle.mysql_wire.specs.Incoming.{codec_by}
use Rattle.mysql_wire.specs.Reader.{HasRead, IsAnswer, payloads_of}
use Rattle.mysql_wire.proofs.codec.feed.feed_all.Given as goal

-- what the pieces so far give, and what is held of them
abbrev pub invariant-pieces : goal.invariant-pieces
invariant-pieces l = record {
  read : HasRead l.fn.codec.limit (OnFrom l.fn.codec.number)
      (flat_map (λ piece. piece.now) (take l.piece-index l.pieces)) (payloads_of l.packets.items)
      (codec_by l.reader) l.reader.bytes [];
  answer : IsAnswer l.fn.codec.limit (OnFrom l.fn.codec.number)
      (flat_map (λ piece. piece.now) (take l.piece-index l.pieces)) (payloads_of l.packets.items)
      None;
}
