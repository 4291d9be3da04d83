use Rattle.std.proofs.Common.{length}
use Rattle.mysql_event_lines.proofs.values.write_hexadecimal.Given as goal

abbrev pub decreases-loop-rest : goal.decreases-loop-rest
decreases-loop-rest g l = length l.rest
