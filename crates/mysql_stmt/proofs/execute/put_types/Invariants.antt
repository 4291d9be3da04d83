use Rattle.std.proofs.Common.{◌≡◌, ◌+◌, ◌-◌, ◌*◌, ◌≤◌, ◌++◌, take, length}
use Rattle.std.specs.Prelude.{vec_len, vec_capacity}
use Rattle.std.specs.List.{flat_map}
use Rattle.mysql_stmt.specs.Executions.{type_bytes}
use Rattle.mysql_stmt.proofs.execute.put_types.Given as goal

abbrev pub invariant-loop-value : goal.invariant-loop-value
invariant-loop-value g l = record {
  written : l.types.items ≡ l.initial.types.items ++
      flat_map (λ value. type_bytes (g.V.HasValue.value value)) (take l.value-index l.values);
  room : vec_len l.types + 2 * (length l.values - l.value-index) ≤ vec_capacity l.types;
}
