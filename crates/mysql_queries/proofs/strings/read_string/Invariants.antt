use Rattle.std.proofs.Common.{length, ◌+◌, vec_len, vec_capacity, ◌-◌, ◌≤◌}
use Rattle.mysql_queries.proofs.StringParts.{StringTo}
use Rattle.mysql_queries.proofs.strings.read_string.Given as goal

abbrev pub invariant-loop-i : goal.invariant-loop-i
invariant-loop-i l = record {
  in_range : l.i ≤ length l.text;
  room : vec_len l.buf + 1 ≤ l.i;
  capacity : vec_capacity l.fn.buf ≤ vec_capacity l.buf;
  front : StringTo l.escapes l.text l.i
      l.buf.items;
}

abbrev pub decreases-loop-i : goal.decreases-loop-i
decreases-loop-i l = length l.text - l.i
