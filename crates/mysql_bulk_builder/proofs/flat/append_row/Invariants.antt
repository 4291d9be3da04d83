use Rattle.std.proofs.Common.{◌≡◌, ◌≤◌, ◌+◌, ◌++◌, map, length, vec_len}
use Rattle.std.specs.Vec.{vec_capacity}
use Rattle.mysql_bulk_builder.specs.Bulk.{param_value_of}
use Rattle.mysql_bulk_builder.proofs.flat.append_row.Given as goal

-- the values so far stand behind the list, and the others have room
abbrev pub invariant-loop-value : goal.invariant-loop-value
invariant-loop-value l = record {
  items : l.values.items ++ map param_value_of l.value-iterator.rest.items ≡ l.fn.values.items ++
      map param_value_of l.fn.row.items;
  room : vec_len l.values + length l.value-iterator.rest.items ≤ vec_capacity l.values;
}
