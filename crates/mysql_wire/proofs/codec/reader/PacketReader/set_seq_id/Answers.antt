use Rattle.std.proofs.Common.{ap, sym, ◌∙◌, subst, arith}
use Rattle.mysql_wire.specs.Codec.{Codec}
use Rattle.mysql_wire.specs.Kept.{IsKept, incoming_of}
use Rattle.mysql_wire.proofs.Incoming.{early, kept_renumbered, view_renumbered}
use Rattle.mysql_wire.proofs.codec.reader.PacketReader.set_seq_id.Goals as goal

pub invariant_of-self : goal.invariant_of-self
invariant_of-self c =
    let few = early c.self.inside c.args.self.now c.kept.result c.self.view_is c.kept.ensures
    c.if-kept-ge-MAX_PAYLOAD_LEN.false in
    subst (λ (d : Codec). IsKept (record c.self.inside { codec = d; number = c.args.number }))
    (sym c.set_seq_id.ensures)
    (kept_renumbered c.self.inside c.args.number few.1 (omega arith) c.self.invariant)

pub returns-clause-set : goal.returns-clause-set
returns-clause-set c =
    let few = early c.self.inside c.args.self.now c.kept.result c.self.view_is c.kept.ensures
    c.if-kept-ge-MAX_PAYLOAD_LEN.false in (
      few.0,
      ap (λ (d : Codec). incoming_of (record c.self.inside { codec = d; number = c.args.number })) c.set_seq_id.ensures
          ∙ view_renumbered c.self.inside c.args.number few.1 c.args.self.now c.self.view_is,
    )
