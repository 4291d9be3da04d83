use Rattle.std.proofs.Common.{◌++◌, arith, refl}
use Rattle.byteorder.specs.Endian.{little_bytes}
use Rattle.mysql_fields.specs.Laws.{fixed_number_at-back}
use Rattle.mysql_command_writer.proofs.testing.long_data_reads.Goals as goal

pub returns : goal.returns
returns c =
    let bytes = c.args.bytes.now in
    rw (
      fixed_number_at-back 4 c.args.id (little_bytes 2 c.args.place ++ bytes) (omega arith),
      fixed_number_at-back 2 c.args.place bytes (omega arith),
    ) refl
