use Rattle.std.proofs.Common.{rules, ◌≡◌, ◌++◌, ◌∙◌, ap, subst, take, drop, ◌+◌, ◌-◌, arith}
use Rattle.mysql_wire.specs.Framing.{announced, number_at}
use Rattle.mysql_buf.specs.Bytes.{AreBytes}
use Rattle.mysql_wire.specs.Chunk.{Awaits}
use Rattle.mysql_wire.proofs.Taken.{takes_front}
use Rattle.mysql_wire.proofs.codec.chunk.ChunkDecoder.decode.Goals as goal
use Rattle.mysql_wire.proofs.codec.chunk.ChunkDecoder.decode.Goals.{in-Chunk+else-needed-count, in_default}

pub returns-then-count-lt-MAX_PAYLOAD_LEN-clause-taken :
    goal.returns-then-count-lt-MAX_PAYLOAD_LEN-clause-taken
returns-then-count-lt-MAX_PAYLOAD_LEN-clause-taken c =
    let src : c.as_slice.result.now ≡ c.args.src.now.items = c.as_slice.ensures in
    let awaited : Awaits c.args.self.now c.header_of-count.result.0 =
    elim c.match-self.branch [
      | in-Chunk+else-needed-count w ↦ rw w.in-Chunk.is
          w.if-needed-count.false
      | in_default w ↦ rw w.in_default.is tt
    ] in
    let put : c.extend_from_slice.new.self.items ≡ c.args.dst.now.items ++
    take (4 + c.header_of-count.result.0 - 4) (drop 4 c.args.src.now.items) = search rules in
    takes_front c.args.self.now c.args.max_allowed_packet c.header_of-count.result.0
    c.args.src.now.items c.args.dst.now.items c.advance.new.self.items
    c.extend_from_slice.new.self.items _
    (subst AreBytes src c.header_of-count.ensures.bytes) (c.header_of-count.ensures.count ∙
    ap announced src) (omega arith) (c.header_of-count.ensures.number ∙
    ap number_at src) (omega arith) awaited (search rules) c.advance.ensures.items put

pub returns-else-count-lt-MAX_PAYLOAD_LEN-clause-taken :
    goal.returns-else-count-lt-MAX_PAYLOAD_LEN-clause-taken
returns-else-count-lt-MAX_PAYLOAD_LEN-clause-taken c =
    let src : c.as_slice.result.now ≡ c.args.src.now.items = c.as_slice.ensures in
    let awaited : Awaits c.args.self.now c.header_of-count.result.0 =
    elim c.match-self.branch [
      | in-Chunk+else-needed-count w ↦ rw w.in-Chunk.is
          w.if-needed-count.false
      | in_default w ↦ rw w.in_default.is tt
    ] in
    let put : c.extend_from_slice.new.self.items ≡ c.args.dst.now.items ++
    take (4 + c.header_of-count.result.0 - 4) (drop 4 c.args.src.now.items) = search rules in
    takes_front c.args.self.now c.args.max_allowed_packet c.header_of-count.result.0
    c.args.src.now.items c.args.dst.now.items c.advance.new.self.items
    c.extend_from_slice.new.self.items _
    (subst AreBytes src c.header_of-count.ensures.bytes) (c.header_of-count.ensures.count ∙
    ap announced src) (omega arith) (c.header_of-count.ensures.number ∙
    ap number_at src) (omega arith) awaited (search rules) c.advance.ensures.items put
