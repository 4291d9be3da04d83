use Rattle.std.proofs.Common.{arith, refl}
use Rattle.byteorder.specs.Endian.{little_bytes}
use Rattle.mysql_fields.specs.Laws.{fixed_number_at-back}
use Rattle.mysql_command_writer.proofs.ReadAgain.{last_number-back}
use Rattle.mysql_command_writer.proofs.testing.fetch_reads.Goals as goal

pub returns : goal.returns
returns c = rw (
  fixed_number_at-back 4 c.args.id (little_bytes 4 c.args.rows) (omega arith),
  last_number-back 4 c.args.rows (omega arith),
) refl
