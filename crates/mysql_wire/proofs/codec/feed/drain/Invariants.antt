use Rattle.std.proofs.Common.{ℕ, List, [], ◌++◌, length}
use Rattle.mysql_wire.specs.Stream.Numbering.{OnFrom}
use Rattle.mysql_wire.specs.Incoming.{codec_by}
use Rattle.mysql_wire.specs.Reader.{HasRead, payloads_of}
use Rattle.mysql_wire.proofs.codec.feed.drain.Given as goal

-- what was handed out so far and what is held stand for the same bytes
abbrev pub invariant-packets : goal.invariant-packets
invariant-packets l = (limit id : ℕ) (bytes : List ℕ) →
    HasRead limit (OnFrom id) bytes (payloads_of l.fn.packets.items) (codec_by l.fn.reader)
    (l.fn.reader.bytes ++ l.fn.piece) [] →
    HasRead limit (OnFrom id) bytes (payloads_of l.packets.items) (codec_by l.reader) (l.reader.bytes ++ l.rest) []

abbrev pub decreases-packets : goal.decreases-packets
decreases-packets l = length l.rest
