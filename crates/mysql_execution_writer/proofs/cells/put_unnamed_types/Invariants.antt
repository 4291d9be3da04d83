use Rattle.std.proofs.Common.{◌≡◌, ◌+◌, ◌-◌, ◌*◌, ◌≤◌, ◌++◌, false, take, length}
use Rattle.std.specs.Prelude.{vec_len, vec_capacity}
use Rattle.std.specs.List.{flat_map}
use Rattle.mysql_execution_writer.specs.Cells.{type_bytes}
use Rattle.mysql_execution_writer.proofs.cells.put_unnamed_types.Given as goal

abbrev pub invariant-loop-kind : goal.invariant-loop-kind
invariant-loop-kind l = record {
  written : l.out.items ≡ l.initial.out.items ++ flat_map (type_bytes false) (take l.kind-index l.types);
  room : vec_len l.out + 2 * (length l.types - l.kind-index) ≤ vec_capacity l.out;
}
