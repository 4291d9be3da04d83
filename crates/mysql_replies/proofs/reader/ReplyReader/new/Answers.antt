use Rattle.std.proofs.Common.{◌<◌, [], refl, subst, sym, ap, arith}
use Rattle.mysql_wire.specs.Codec.{IsBetween}
use Rattle.mysql_wire.specs.Incoming.{codec_by}
use Rattle.mysql_replies.proofs.Receiving.{fresh_paused}
use Rattle.mysql_replies.proofs.reader.ReplyReader.new.Goals as goal

pub invariant_of-result : goal.invariant_of-result
invariant_of-result c = record {
  reading = c.new.ensures.reading;
  paused = λ going.
      let byte : c.args.first_id < 256 = omega arith in
      fresh_paused c.framing_laws.ensures c.new.result (codec_by c.new-2.result)
      c.new-2.result.bytes [] (subst (λ r. IsBetween (codec_by r)) (sym c.new-2.ensures) (
        refl,
        refl,
      )) (subst (λ r. r.number < 256) (sym c.new-2.ensures) byte)
      (ap (λ r. r.bytes) c.new-2.ensures) refl;
}
