use Rattle.std.proofs.Common.{◌≡◌, ◌+◌, ◌≤◌, ◌++◌, length, map, drop, vec_len, vec_capacity}
use Rattle.mysql_values.proofs.params.list_references.Given as goal

abbrev pub invariant-loop-value : goal.invariant-loop-value
invariant-loop-value l = record {
  listed : l.values ≡ map (λ value. value.now) l.listed.items ++ drop l.value-index l.values;
  room : vec_len l.listed + length l.values ≤ vec_capacity l.listed + l.value-index;
}
