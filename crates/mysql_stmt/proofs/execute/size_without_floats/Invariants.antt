use Rattle.std.proofs.Common.{◌≡◌, ◌+◌, ◌≤◌, drop, map}
use Rattle.std.specs.Prelude.{is_none}
use Rattle.std.specs.List.{position_from}
use Rattle.mysql_cells.specs.Values.{content_of, first_float}
use Rattle.mysql_stmt.specs.Executions.{whole_size}
use Rattle.mysql_stmt.proofs.LongData.{left}
use Rattle.mysql_stmt.proofs.execute.size_without_floats.Given as goal

abbrev pub invariant-loop-value : goal.invariant-loop-value
invariant-loop-value g l = record {
  sum : whole_size (map g.V.HasValue.value l.values) + l.room ≡ l.most + left g.V.HasValue.value l.values l.value-index;
  small : l.room ≤ l.most;
  floats : position_from (λ value. is_none (content_of value)) l.value-index
      (map g.V.HasValue.value (drop l.value-index l.values)) ≡
      first_float (map g.V.HasValue.value l.values);
}
