use Rattle.std.proofs.Common.{arith, ◌++◌, [], refl, ap, subst}
use Rattle.mysql_wire.specs.Incoming.{Incoming, codec_by}
use Rattle.mysql_replies.specs.Pieces.{TakesPiece}
use Rattle.mysql_replies.proofs.Receiving.{taking_starts, piece_bytes, waits_taken}
use Rattle.mysql_replies.proofs.reader.ReaderParts.take_packets.Goals as goal

pub returns-then-took_within : goal.returns-then-took_within
returns-then-took_within c =
    let laws = c.framing_laws.ensures in
    let start = c.args.self.now.state in
    let old = c.args.self.now.packets in
    let piece = c.args.piece.now in
    let fed = old.bytes ++ piece in
    let t =
    taking_starts start (codec_by old) fed [] c.requires.reading c.requires.going
    c.requires.paused.refused c.requires.paused.can_go_on
    (piece_bytes laws (codec_by old) old.bytes fed [] piece refl c.requires.paused.bytes
    (λ i. omega (arith, c.type_inv.piece i))) c.requires.paused.nothing_begun in
    let taken =
    waits_taken laws start start old old c.took_within.new.packets piece piece [] t c.requires.going
    c.if-took_within.ensures.awaiting c.if-took_within.ensures.waits refl
    (ap (λ (x : Incoming). x.payload) c.if-took_within.ensures.used) in
    record {
      reading = c.requires.reading;
      paused = (c.requires.going, taken.0);
      fault = tt;
      took =
          taken.1;
      goes_on = taken.2;
      short = tt;
    }

pub returns : goal.returns
returns c =
    subst (λ (p : Incoming). TakesPiece c.args.self.now.state p c.args.piece.now
    c.take_payloads.result c.take_payloads.new.state c.take_payloads.new.packets)
    c.if-took_within.ensures.kept c.take_payloads.ensures
