use Rattle.std.proofs.Common.{length, ◌+◌, vec_len, vec_capacity, ◌-◌, ◌≤◌, slice_range}
use Rattle.mysql_queries.specs.Literals.{SpellsInHex}
use Rattle.mysql_queries.proofs.hexadecimal.read_hex.Given as goal

abbrev pub invariant-loop-i : goal.invariant-loop-i
invariant-loop-i l = record {
  from : 2 ≤ l.i;
  in_range : l.i ≤ length l.text;
  room : vec_len l.buf +
      1 ≤ l.i;
  capacity : vec_capacity l.fn.buf ≤ vec_capacity l.buf;
  spells : SpellsInHex
      (slice_range l.text 2 l.i) l.buf.items;
}

abbrev pub decreases-loop-i : goal.decreases-loop-i
decreases-loop-i l = length l.text - l.i
