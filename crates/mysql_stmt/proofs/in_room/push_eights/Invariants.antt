use Rattle.std.proofs.Common.{◌≡◌, ◌+◌, ◌≤◌, ◌++◌, length}
use Rattle.std.specs.Prelude.{vec_len, vec_capacity}
use Rattle.mysql_stmt.proofs.in_room.push_eights.Given as goal

abbrev pub invariant-loop-eight : goal.invariant-loop-eight
invariant-loop-eight l = record {
  items : l.out.items ++ l.rest ≡ l.fn.out.items ++ l.fn.text;
  room : vec_len l.out + length l.rest ≤ vec_capacity l.out;
}

abbrev pub decreases-loop-eight : goal.decreases-loop-eight
decreases-loop-eight l = length l.rest
