use Rattle.std.proofs.Common.{◌≡◌, arith, [], ◌+◌, refl, ap}
use Rattle.mysql_wire.specs.Incoming.{codec_by}
use Rattle.mysql_wire.specs.Reader.{payloads_of}
use Rattle.mysql_wire.proofs.Incoming.{reader_begins}
use Rattle.mysql_wire.proofs.Reading.{feeds_next, answer_to_all}
use Rattle.mysql_wire.proofs.codec.feed.feed_all.Goals as goal

pub pieces-init : goal.pieces-init
pieces-init c =
    let begins = reader_begins c.new-reader.result c.args.codec c.seq_id.result
    c.codec.inside.max_allowed_packet c.new-reader.ensures c.seq_id.ensures
    (ap (λ codec. codec.limit) c.codec.view_is) c.seq_id.type_inv in
    let none : c.new-packets.result.items ≡ [] = c.new-packets.ensures.items in
    record { read = rw none begins.0; answer = rw none begins.1 }

pub returns-in-Err : goal.returns-in-Err
returns-in-Err c =
    let codec = c.args.codec in
    let fed = feeds_next codec.limit codec.number c.args.pieces.now c.pieces.piece-index
    (record { ref_ptr = (0, 0); now = [] }) (payloads_of c.pieces.packets.items)
    (codec_by c.pieces.reader) c.pieces.reader.bytes [] _ c.pieces.invariant.read (omega arith) refl in
    answer_to_all codec.limit codec.number c.args.pieces.now (c.pieces.piece-index + 1)
    (payloads_of c.drain.new.packets.items) c.in-Err.fault
    (c.in-Err.ensures codec.limit codec.number _ fed)

pub pieces-preserved : goal.pieces-preserved
pieces-preserved c =
    let codec = c.args.codec in
    let fed = feeds_next codec.limit codec.number c.args.pieces.now c.pieces.piece-index
    (record { ref_ptr = (0, 0); now = [] }) (payloads_of c.pieces.packets.items)
    (codec_by c.pieces.reader) c.pieces.reader.bytes [] _ c.pieces.invariant.read (omega arith) refl in
    let drained = c.in_default.ensures codec.limit codec.number _ fed in
    record { read = drained.0; answer = drained.1 }
