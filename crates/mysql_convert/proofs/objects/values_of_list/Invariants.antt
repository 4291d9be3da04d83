use Rattle.std.proofs.Common.{◌≡◌, ◌+◌, ◌≤◌, Some, length, map, take, vec_len, vec_capacity}
use Rattle.mysql_convert.proofs.objects.values_of_list.Given as goal

abbrev pub invariant-loop-place : goal.invariant-loop-place
invariant-loop-place g l = record {
  made : map g.T.ToValue.as_value (take l.place l.list) ≡ map Some l.values.items;
  room : vec_len l.values + length l.list ≤ vec_capacity l.values + l.place;
}
