use Rattle.std.proofs.Common.{arith}
use Rattle.std.proofs.lemmas.Grind.{common_steps}
use Rattle.mysql_stmt.proofs.execute.size_without_floats.Goals as goal

pub loop-value-preserved : goal.loop-value-preserved
loop-value-preserved g c = record {
  sum = grind (arith, common_steps);
  small = omega arith;
  floats = grind (arith, common_steps);
}
