use Rattle.std.proofs.Common.{arith}
use Rattle.mysql_connection_writer.proofs.OwnValues.{rows_held}
use Rattle.mysql_connection_writer.proofs.own.bulk_fits.Goals as goal

pub returns : goal.returns
returns c = record {
  statement = omega arith;
  names = c.own_names_fit.ensures;
  rows = rows_held c.as_slice.result.now c.args.execution.now.rows.items c.as_slice.ensures.value c.rows_fit.ensures;
}
