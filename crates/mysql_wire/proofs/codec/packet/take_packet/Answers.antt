use Rattle.std.proofs.Common.{rules, ◌≡◌, ◌≢◌, ◌⊎◌, ◌∙◌, ◌++◌, ◌%◌, subst, ◌+◌, ap, arith, min, take, drop, length}
use Rattle.mysql_wire.proofs.Steps.{more_filled, next_none, next_err, next_some, moved_part, moved_wrong, moved_last}
use Rattle.mysql_wire.proofs.Steps.{moved_middle}
use Rattle.mysql_wire.proofs.codec.packet.take_packet.Goals as goal

pub returns-in-Ok-None-clause-ok : goal.returns-in-Ok-None-clause-ok
returns-in-Ok-None-clause-ok g c =
    (next_none c.args.limit c.args.number.now c.args.begun.now (g.B.Buf.unread c.args.src.now)
    (g.D.BufMut.written c.args.dst.now) c.chunks.number c.chunks.begun
    (g.B.Buf.unread c.chunks.src) (g.D.BufMut.written c.chunks.dst)
    (g.B.Buf.unread c.next_chunk.new.src) c.chunks.filled
    c.chunks.invariant.reading (rw c.in-Ok-None.field-0-is at c.in-Ok-None.ensures)).0

pub returns-in-Err-clause-err : goal.returns-in-Err-clause-err
returns-in-Err-clause-err g c =
    next_err c.args.limit c.args.number.now c.args.begun.now (g.B.Buf.unread c.args.src.now)
    (g.D.BufMut.written c.args.dst.now) c.chunks.number c.chunks.begun
    (g.B.Buf.unread c.chunks.src) (g.D.BufMut.written c.chunks.dst)
    (g.B.Buf.unread c.next_chunk.new.src) c.chunks.filled
    c.in-Err.refusal c.chunks.invariant.reading c.chunks.invariant.filled c.in-Err.ensures

pub returns-then-count-chunk-clause-ok : goal.returns-then-count-chunk-clause-ok
returns-then-count-chunk-clause-ok g c =
    let put : (g.D.BufMut.written c.move_bytes.new.dst) ≡ (g.D.BufMut.written c.chunks.dst) ++
    take c.min-count.result (g.B.Buf.unread c.next_chunk.new.src) = search rules in
    let gone : g.B.Buf.unread c.move_bytes.new.src ≡
    drop c.min-count.result (g.B.Buf.unread c.next_chunk.new.src) = search rules in
    let least : c.min-count.result ≡
    min c.in-Ok-Some.chunk.awaited (length (g.B.Buf.unread c.next_chunk.new.src)) =
    c.min-count.ensures ∙ ap (min c.in-Ok-Some.chunk.awaited) c.remaining.ensures in
    let start = next_some c.args.limit c.args.number.now c.args.begun.now
    (g.B.Buf.unread c.args.src.now) (g.D.BufMut.written c.args.dst.now) c.chunks.number
    c.chunks.begun (g.B.Buf.unread c.chunks.src) (g.D.BufMut.written c.chunks.dst)
    (g.B.Buf.unread c.next_chunk.new.src) c.chunks.filled
    c.in-Ok-Some.chunk c.chunks.invariant.reading c.chunks.invariant.filled
    (rw c.in-Ok-Some.field-0-is at c.in-Ok-Some.ensures) in
    (moved_part c.args.limit c.args.number.now c.args.begun.now (g.B.Buf.unread c.args.src.now)
    (g.D.BufMut.written c.args.dst.now) c.chunks.number c.in-Ok-Some.chunk
    (g.B.Buf.unread c.next_chunk.new.src) (g.D.BufMut.written c.chunks.dst)
    (g.B.Buf.unread c.move_bytes.new.src) (g.D.BufMut.written c.move_bytes.new.dst)
    c.min-count.result start least (omega arith) gone put).0

pub returns-then-chunk-number-clause-err : goal.returns-then-chunk-number-clause-err
returns-then-chunk-number-clause-err g c =
    let put : (g.D.BufMut.written c.move_bytes.new.dst) ≡ (g.D.BufMut.written c.chunks.dst) ++
    take c.min-count.result (g.B.Buf.unread c.next_chunk.new.src) = search rules in
    let gone : g.B.Buf.unread c.move_bytes.new.src ≡
    drop c.min-count.result (g.B.Buf.unread c.next_chunk.new.src) = search rules in
    let least : c.min-count.result ≡
    min c.in-Ok-Some.chunk.awaited (length (g.B.Buf.unread c.next_chunk.new.src)) =
    c.min-count.ensures ∙ ap (min c.in-Ok-Some.chunk.awaited) c.remaining.ensures in
    let start = next_some c.args.limit c.args.number.now c.args.begun.now
    (g.B.Buf.unread c.args.src.now) (g.D.BufMut.written c.args.dst.now) c.chunks.number
    c.chunks.begun (g.B.Buf.unread c.chunks.src) (g.D.BufMut.written c.chunks.dst)
    (g.B.Buf.unread c.next_chunk.new.src) c.chunks.filled
    c.in-Ok-Some.chunk c.chunks.invariant.reading c.chunks.invariant.filled
    (rw c.in-Ok-Some.field-0-is at c.in-Ok-Some.ensures) in
    moved_wrong c.args.limit c.args.number.now c.args.begun.now (g.B.Buf.unread c.args.src.now)
    (g.D.BufMut.written c.args.dst.now) c.chunks.number c.in-Ok-Some.chunk
    (g.B.Buf.unread c.next_chunk.new.src) (g.D.BufMut.written c.chunks.dst)
    (g.B.Buf.unread c.move_bytes.new.src) (g.D.BufMut.written c.move_bytes.new.dst)
    c.min-count.result (omega arith) (omega arith) start least (omega arith) gone put
    c.if-chunk-number.true

pub returns-then-is_last_chunk-clause-ok : goal.returns-then-is_last_chunk-clause-ok
returns-then-is_last_chunk-clause-ok g c =
    let put : (g.D.BufMut.written c.move_bytes.new.dst) ≡ (g.D.BufMut.written c.chunks.dst) ++
    take c.min-count.result (g.B.Buf.unread c.next_chunk.new.src) = search rules in
    let gone : g.B.Buf.unread c.move_bytes.new.src ≡
    drop c.min-count.result (g.B.Buf.unread c.next_chunk.new.src) = search rules in
    let least : c.min-count.result ≡
    min c.in-Ok-Some.chunk.awaited (length (g.B.Buf.unread c.next_chunk.new.src)) =
    c.min-count.ensures ∙ ap (min c.in-Ok-Some.chunk.awaited) c.remaining.ensures in
    let now : c.chunks.filled + c.min-count.result ≡ length (g.D.BufMut.written c.move_bytes.new.dst) =
    more_filled (g.B.Buf.unread c.next_chunk.new.src) (g.D.BufMut.written c.chunks.dst)
    (g.D.BufMut.written c.move_bytes.new.dst) c.in-Ok-Some.chunk.awaited c.min-count.result
    c.chunks.filled c.chunks.invariant.filled least put in
    let told : (c.min-count.result ≡ 0) ⊎ ((c.chunks.filled + c.min-count.result) % 16777215 ≢ 0) = search rules in
    let ends : (c.min-count.result ≡ 0) ⊎
    (length (g.D.BufMut.written c.move_bytes.new.dst) % 16777215 ≢ 0) =
    subst (λ k. (c.min-count.result ≡ 0) ⊎ (k % 16777215 ≢ 0)) now told in
    let start = next_some c.args.limit c.args.number.now c.args.begun.now
    (g.B.Buf.unread c.args.src.now) (g.D.BufMut.written c.args.dst.now) c.chunks.number
    c.chunks.begun (g.B.Buf.unread c.chunks.src) (g.D.BufMut.written c.chunks.dst)
    (g.B.Buf.unread c.next_chunk.new.src) c.chunks.filled
    c.in-Ok-Some.chunk c.chunks.invariant.reading c.chunks.invariant.filled
    (rw c.in-Ok-Some.field-0-is at c.in-Ok-Some.ensures) in
    moved_last c.args.limit c.args.number.now c.args.begun.now (g.B.Buf.unread c.args.src.now)
    (g.D.BufMut.written c.args.dst.now) c.chunks.number c.in-Ok-Some.chunk
    (g.B.Buf.unread c.next_chunk.new.src) (g.D.BufMut.written c.chunks.dst)
    (g.B.Buf.unread c.move_bytes.new.src) (g.D.BufMut.written c.move_bytes.new.dst)
    c.min-count.result (omega arith) (omega arith) start least (omega arith) gone put
    c.if-chunk-number.false ends

pub chunks-preserved : goal.chunks-preserved
chunks-preserved g c =
    let put : (g.D.BufMut.written c.move_bytes.new.dst) ≡ (g.D.BufMut.written c.chunks.dst) ++
    take c.min-count.result (g.B.Buf.unread c.next_chunk.new.src) = search rules in
    let gone : g.B.Buf.unread c.move_bytes.new.src ≡
    drop c.min-count.result (g.B.Buf.unread c.next_chunk.new.src) = search rules in
    let least : c.min-count.result ≡
    min c.in-Ok-Some.chunk.awaited (length (g.B.Buf.unread c.next_chunk.new.src)) =
    c.min-count.ensures ∙ ap (min c.in-Ok-Some.chunk.awaited) c.remaining.ensures in
    let now : c.chunks.filled + c.min-count.result ≡ length (g.D.BufMut.written c.move_bytes.new.dst) =
    more_filled (g.B.Buf.unread c.next_chunk.new.src) (g.D.BufMut.written c.chunks.dst)
    (g.D.BufMut.written c.move_bytes.new.dst) c.in-Ok-Some.chunk.awaited c.min-count.result
    c.chunks.filled c.chunks.invariant.filled least put in
    let told : (c.min-count.result ≢ 0) × ((c.chunks.filled + c.min-count.result) % 16777215 ≡ 0) = search rules in
    let goes_on : (c.min-count.result ≢ 0) ×
    (length (g.D.BufMut.written c.move_bytes.new.dst) % 16777215 ≡ 0) =
    subst (λ k. (c.min-count.result ≢ 0) × (k % 16777215 ≡ 0)) now told in
    let start = next_some c.args.limit c.args.number.now c.args.begun.now
    (g.B.Buf.unread c.args.src.now) (g.D.BufMut.written c.args.dst.now) c.chunks.number
    c.chunks.begun (g.B.Buf.unread c.chunks.src) (g.D.BufMut.written c.chunks.dst)
    (g.B.Buf.unread c.next_chunk.new.src) c.chunks.filled
    c.in-Ok-Some.chunk c.chunks.invariant.reading c.chunks.invariant.filled
    (rw c.in-Ok-Some.field-0-is at c.in-Ok-Some.ensures) in
    record {
      reading = moved_middle c.args.limit c.args.number.now c.args.begun.now
          (g.B.Buf.unread c.args.src.now) (g.D.BufMut.written c.args.dst.now) c.chunks.number
          c.in-Ok-Some.chunk (g.B.Buf.unread c.next_chunk.new.src) (g.D.BufMut.written c.chunks.dst)
          (g.B.Buf.unread c.move_bytes.new.src) (g.D.BufMut.written c.move_bytes.new.dst)
          c.min-count.result (omega arith) (omega arith) start least (omega arith) gone put
          c.if-chunk-number.false goes_on.0 goes_on.1;
      filled = now;
    }
