use Rattle.std.proofs.Common.{arith, refl}
use Rattle.mysql_command_writer.proofs.ReadAgain.{last_number-back}
use Rattle.mysql_command_writer.proofs.testing.id_reads.Goals as goal

pub returns-clause-kill : goal.returns-clause-kill
returns-clause-kill c = rw (last_number-back 4 c.args.id (omega arith)) refl

pub returns-clause-close : goal.returns-clause-close
returns-clause-close c = rw (last_number-back 4 c.args.id (omega arith)) refl

pub returns-clause-reset : goal.returns-clause-reset
returns-clause-reset c = rw (last_number-back 4 c.args.id (omega arith)) refl
