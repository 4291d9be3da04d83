use Rattle.std.proofs.Common.{arith, refl}
use Rattle.mysql_command_writer.proofs.ReadAgain.{last_number-back}
use Rattle.mysql_command_writer.proofs.testing.option_reads.Goals as goal

pub returns : goal.returns
returns c = rw (last_number-back 2 c.args.option (omega arith)) refl
