use Rattle.std.proofs.Common.{◌≡◌, ◌≤◌, drop, length, vec_capacity, vec_len}
use Rattle.mysql_receive.specs.Reading.{set_at}
use Rattle.mysql_receive.specs.Views.{data_waiting}
use Rattle.mysql_receive.proofs.Loops.{behind}
use Rattle.mysql_receive.proofs.Nulls.{SayNulls}
use Rattle.mysql_field_lists.specs.NullBits.{bits_left}
use Rattle.mysql_receive.proofs.reading.read_set.Given as goal

abbrev pub invariant-loop-place : goal.invariant-loop-place
invariant-loop-place l =
    (behind (l.set.items) (set_at (data_waiting l.state.long_data.items) l.nulls l.place (drop l.place l.types) l.rest)
    ≡ set_at (data_waiting l.state.long_data.items) l.nulls 0 l.types l.cells)
    × SayNulls (bits_left l.bits) l.nulls l.place (length l.types)
    × (length l.types ≤ vec_capacity l.set)
    × (vec_len l.set ≡ l.place)
