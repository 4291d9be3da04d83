use Rattle.std.proofs.Common.{◌≡◌, None, true, false, Bool, ap, sym, ◌∙◌}
use Rattle.std.specs.Bool.{OnTrue}
use Rattle.std.specs.Prelude.{Option}
use Rattle.mysql_wire.specs.Codec.{Codec}
use Rattle.mysql_wire.specs.Moving.{begun_of}
use Rattle.mysql_wire.specs.declared.codec.Refusal.{Refusal}
use Rattle.mysql_wire.proofs.Steps.{waits_within}
use Rattle.mysql_wire.proofs.codec.PacketCodec.decode_within.Goals as goal

on_true : {P Q : Type 0} (b : Bool) → (P → Q) → OnTrue b P → OnTrue b Q
on_true true f p = f p
on_true false f p = tt

pub returns-clause-waits : goal.returns-clause-waits
returns-clause-waits c =
    let inside : c.self.inside.refused ≡ None = ap (λ codec. codec.refused) c.self.view_is ∙ c.requires.open in
    let at : Option Refusal → Codec =
    λ (r : Option Refusal). record {
      limit = c.self.inside.max_allowed_packet;
      number =
          c.self.inside.number;
      begun = begun_of c.self.inside.begun;
      refused = r;
    } in
    let now : Option Refusal → Codec =
    λ (r : Option Refusal). record {
      limit = c.self.inside.max_allowed_packet;
      number =
          c.self.inside.number;
      begun = begun_of c.move_within.new.begun;
      refused = r;
    } in
    on_true c.move_within.result
    (λ moved.
    waits_within c.args.self.now (now c.self.inside.refused) c.self.inside.number
    c.self.inside.max_allowed_packet c.self.inside.begun c.move_within.new.begun
    c.args.packet.now.items c.args.piece.now c.move_within.new.packet.items
    (ap at (sym inside) ∙ c.self.view_is) (ap now (sym inside)) (c.requires.goes_on c.requires.open)
    moved.0 moved.1) c.move_within.ensures.moved
