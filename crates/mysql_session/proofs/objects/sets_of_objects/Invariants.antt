use Rattle.std.proofs.Common.{◌+◌, ◌≤◌, length, map, take, vec_capacity, vec_len}
use Rattle.mysql_session.specs.Objects.{AreMade}
use Rattle.mysql_session.proofs.objects.sets_of_objects.Given as goal

abbrev pub invariant-loop-list : goal.invariant-loop-list
invariant-loop-list g l = record {
  made : AreMade (map (λ list. map
      (λ object. (goal.ToValue-dyn g (object.vtable, object.value)).as_value object.value)
      list.items) (take l.list-index l.lists)) l.sets.items;
  room : vec_len l.sets + length l.lists ≤ vec_capacity l.sets + l.list-index;
}
