use Rattle.std.proofs.Common.{◌≡◌, ◌+◌, ◌-◌, ◌*◌, ◌≤◌, ◌++◌, take, length, flat_map}
use Rattle.std.specs.Prelude.{vec_len, vec_capacity}
use Rattle.mysql_queries.specs.Written.{written_byte}
use Rattle.mysql_literals.proofs.quoting.put_each.Given as goal

abbrev pub invariant-loop-byte : goal.invariant-loop-byte
invariant-loop-byte l = record {
  written : l.text.items ≡ l.initial.text.items ++
      flat_map (written_byte l.no_backslash_escape) (take l.byte-index l.bytes);
  room : vec_len l.text + 2 * (length l.bytes - l.byte-index) ≤ vec_capacity l.text;
}
