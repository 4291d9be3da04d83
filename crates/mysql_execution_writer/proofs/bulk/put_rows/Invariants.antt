use Rattle.std.proofs.Common.{◌≡◌, ◌++◌, drop}
use Rattle.std.specs.List.{flat_map}
use Rattle.mysql_executions.specs.Views.{types_by, types_of}
use Rattle.mysql_execution_writer.specs.Bulks.{row_bytes}
use Rattle.mysql_execution_writer.proofs.bulk.put_rows.Given as goal

abbrev pub invariant-loop-row : goal.invariant-loop-row
invariant-loop-row l = l.out.items ++
    flat_map (λ row. row_bytes (types_by (types_of l.own) l.s.types) row.items)
    (drop l.row-index l.rows) ≡ l.initial.out.items ++
    flat_map (λ row. row_bytes (types_by (types_of l.own) l.s.types) row.items) l.rows
