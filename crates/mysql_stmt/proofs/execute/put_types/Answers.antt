use Rattle.std.proofs.Common.{arith}
use Rattle.std.proofs.lemmas.Grind.{common_steps}
use Rattle.mysql_stmt.proofs.execute.put_types.Goals as goal

pub loop-value-preserved : goal.loop-value-preserved
loop-value-preserved g c = record {
  written = grind (arith, common_steps);
  room = grind (arith, common_steps);
}
