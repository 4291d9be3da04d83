use Rattle.std.proofs.Common.{◌+◌, ◌*◌, ◌/◌, arith}
use Rattle.std.proofs.lemmas.List.{take_rest}
use Rattle.mysql_wire.specs.Framing.{max_payload_len}
use Rattle.mysql_wire.proofs.Extents.{goes_last, goes_behind}
use Rattle.mysql_wire.proofs.extent.extent_at.Goals as goal

pub returns-then-len-lt-MAX_PAYLOAD_LEN-clause-found :
    goal.returns-then-len-lt-MAX_PAYLOAD_LEN-clause-found
returns-then-len-lt-MAX_PAYLOAD_LEN-clause-found c =
    let b = c.chunks.invariant in
    goes_last c.args.limit c.args.number c.args.bytes.now c.chunks.full c.chunks.room c.chunks.due c.chunks.rest.now b
    c.in-Whole.len (omega arith)
    (c.in-Whole.ensures.found (c.chunks.room / max_payload_len) c.args.limit (c.chunks.full * max_payload_len) b.fits)

pub chunks-preserved : goal.chunks-preserved
chunks-preserved c =
    let b = c.chunks.invariant in
    goes_behind c.args.limit c.args.number c.args.bytes.now c.chunks.full c.chunks.room c.chunks.due
    c.chunks.rest.now _ b
    c.in-Whole.len (omega arith) c.in-Whole.ensures.stands
    (c.in-Whole.ensures.found (c.chunks.room / max_payload_len) c.args.limit (c.chunks.full * max_payload_len) b.fits)
    (take_rest c.chunks.rest.now (4 + c.in-Whole.len))
