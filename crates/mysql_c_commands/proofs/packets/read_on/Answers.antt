use Rattle.std.proofs.Common.{Ok, ap, refl}
use Rattle.mysql_c_commands.proofs.Behind.{no_refusal, reads_to}
use Rattle.mysql_c_commands.proofs.packets.read_on.Goals as goal

pub returns-in-Ok : goal.returns-in-Ok
returns-in-Ok c = record {
  done = λ _. reads_to c.args.reader.now c.args.piece.now c.advance.new.piece.now c.in-Ok.stands
      c.advance.new.self c.in-Ok.ensures.ok
      (λ h. c.in-Ok.ensures.whole (ap Ok h)) (λ h. c.in-Ok.ensures.waits (ap Ok h));
  failed = λ h. absurd (h refl);
  stays = no_refusal c.args.reader.now.refused c.in-Ok.stands c.args.reader.now c.advance.new.self _
      c.in-Ok.ensures.stays;
}
