use Rattle.mysql_send.proofs.Pieces.{PiecesSent}
use Rattle.mysql_send.proofs.execute.executions.put_pieces.Given as goal

abbrev pub invariant-values : goal.invariant-values
invariant-values g l = PiecesSent l.id g.V.HasValue.value l.values l.fn.out.items l.out.items l.place
