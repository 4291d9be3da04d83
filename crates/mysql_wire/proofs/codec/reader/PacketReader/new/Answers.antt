use Rattle.std.proofs.Common.{◌≡◌, [], refl, ap, arith}
use Rattle.mysql_wire.specs.Codec.{packet_number}
use Rattle.mysql_wire.proofs.Incoming.{stands_between, no_refusal}
use Rattle.mysql_wire.proofs.codec.reader.PacketReader.new.Goals as goal

pub invariant_of-result : goal.invariant_of-result
invariant_of-result c =
    let number : packet_number c.at.result [] ≡ c.args.number =
    omega (arith, ap (λ codec. codec.number) c.at.ensures) in
    record {
      stands = λ none. stands_between c.at.result c.new.result c.args.number
          (ap (λ codec. codec.begun) c.at.ensures) c.new.ensures number;
      begun = refl;
      refused = no_refusal c.at.result.refused _ _ (ap (λ codec. codec.refused) c.at.ensures);
    }
