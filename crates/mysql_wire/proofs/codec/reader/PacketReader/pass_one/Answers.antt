use Rattle.std.proofs.Common.{◌≡◌, ◌==◌, not, None, length, refl, ap, sym, ◌∙◌, subst, ◌+◌, ◌%◌, arith}
use Rattle.mysql_wire.specs.Kept.{Stands, unfinished, bytes_of}
use Rattle.mysql_wire.proofs.Incoming.{kept_at, no_refusal}
use Rattle.mysql_wire.proofs.codec.reader.PacketReader.pass_one.Goals as goal

pub invariant_of-self : goal.invariant_of-self
invariant_of-self c =
    let new = c.set_seq_id.new.self in
    let header = c.self.inside.header in
    let fine : c.self.inside.codec.refused ≡ None = ap (λ v. v.refused) c.self.view_is ∙ c.requires.open in
    let on = kept_at c.self.inside new ((c.self.inside.number + 1) % 256) c.self.invariant
    (ap (λ v. v.bytes) c.self.view_is ∙ c.requires.between) fine (omega arith)
    c.set_seq_id.ensures in
    record {
      stands = λ _. subst (λ b. Stands new header (unfinished b c.clear.new.self.items)
          ((c.self.inside.number + 1) % 256) (bytes_of b new header c.clear.new.self.items))
          (sym on.0) on.1;
      begun = subst (λ b. (length (bytes_of b new header c.clear.new.self.items) == 0) ≡ not b) (sym on.0) refl;
      refused = no_refusal new.refused _ _ (ap (λ k. k.refused) c.set_seq_id.ensures ∙ fine);
    }
