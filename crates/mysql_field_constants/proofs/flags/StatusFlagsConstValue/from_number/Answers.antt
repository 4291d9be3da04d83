use Rattle.std.proofs.Common.{eq-eqb, refl, bit_and}
use Rattle.std.proofs.lemmas.Bool.{ne_eqb}
use Rattle.bitflags.specs.Sets.{known_from}
use Rattle.mysql_field_constants.proofs.flags.StatusFlagsConstValue.from_number.Goals as goal

pub returns-then-n : goal.returns-then-n
unfolding known_from
returns-then-n c = rw (eq-eqb (bit_and c.args.n 0xfffb) c.args.n c.if-n.true) refl

pub returns-else-n : goal.returns-else-n
unfolding known_from
returns-else-n c = rw (ne_eqb (bit_and c.args.n 0xfffb) c.args.n c.if-n.false) refl
