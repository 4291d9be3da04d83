use Rattle.std.proofs.Common.{ap, sym, subst, arith, length}
use Rattle.mysql_wire.specs.Codec.{Codec}
use Rattle.mysql_wire.specs.Kept.{IsKept}
use Rattle.mysql_wire.proofs.Incoming.{kept_renumbered}
use Rattle.mysql_wire.proofs.codec.reader.PacketReader.reset_seq_id.Goals as goal

pub invariant_of-self : goal.invariant_of-self
invariant_of-self c =
    subst (λ (d : Codec). IsKept (record c.self.inside { codec = d; number = 0 })) (sym c.reset_seq_id.ensures)
    (kept_renumbered c.self.inside 0
    (omega (arith, ap (λ v. length v.bytes) c.self.view_is, ap length c.requires)) (omega arith)
    c.self.invariant)
