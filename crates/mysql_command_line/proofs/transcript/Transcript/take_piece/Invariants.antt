use Rattle.std.proofs.Common.{length}
use Rattle.mysql_command_line.proofs.transcript.Transcript.take_piece.Given as goal

abbrev pub decreases-loop-rest : goal.decreases-loop-rest
decreases-loop-rest g l = length l.rest
