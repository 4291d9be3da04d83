use Rattle.std.proofs.Common.{◌≡◌, map, take}
use Rattle.mysql_values.specs.Sql.{read_by}
use Rattle.mysql_receive.specs.Audit.{IsAbout}
use Rattle.mysql_receive.specs.Received.{receiver_state}
use Rattle.mysql_receive.proofs.Receiving.{SoFar}
use Rattle.mysql_receive.proofs.whole.receive_in.Given as goal

-- what is held is what the pieces so far lead to
abbrev pub invariant-pieces : goal.invariant-pieces
invariant-pieces l = record {
  about : IsAbout l.receiver.statement (read_by l.fn.mode l.fn.spelling l.fn.query) l.fn.stmt_id;
  limit : l.receiver.limit ≡ l.fn.limit;
  so_far : SoFar l.receiver.statement l.receiver.limit
      (map (λ piece. piece.now) (take l.piece-index l.pieces)) (receiver_state l.receiver);
}
