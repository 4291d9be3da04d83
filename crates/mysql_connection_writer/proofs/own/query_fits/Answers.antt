use Rattle.std.proofs.Common.{arith}
use Rattle.mysql_connection_writer.proofs.OwnValues.{attribute_names, attribute_values}
use Rattle.mysql_connection_writer.proofs.own.query_fits.Goals as goal

pub returns : goal.returns
returns c = record {
  count = omega arith;
  values = attribute_values c.args.attributes.now c.attributes_fit.ensures;
  names = attribute_names c.args.attributes.now c.attributes_fit.ensures;
}
