use Rattle.std.proofs.Common.{◌≡◌, ◌≤◌, drop, length, vec_capacity, vec_len}
use Rattle.mysql_receive.specs.Reading.{columns_at}
use Rattle.mysql_receive.proofs.Loops.{with_front}
use Rattle.mysql_receive.proofs.reading.read_columns.Given as goal

abbrev pub invariant-loop-kind : goal.invariant-loop-kind
invariant-loop-kind l =
    (with_front (l.set.items) (columns_at (drop l.kind-index l.types) l.rest) ≡ columns_at l.types l.bytes)
    × (length l.types ≤ vec_capacity l.set)
    × (vec_len l.set ≡ l.kind-index)
