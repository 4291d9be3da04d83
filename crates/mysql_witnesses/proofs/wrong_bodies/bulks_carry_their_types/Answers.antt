use Rattle.mysql_witnesses.proofs.AboutWrongBodies.{bulks_carry_their_types}
use Rattle.mysql_witnesses.proofs.wrong_bodies.bulks_carry_their_types.Goals as goal

pub returns : goal.returns
returns c = bulks_carry_their_types
