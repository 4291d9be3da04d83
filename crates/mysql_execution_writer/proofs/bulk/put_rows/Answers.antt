use Rattle.std.proofs.Common.{◌++◌, List, ℕ, ap, ◌∙◌}
use Rattle.std.specs.List.{flat_map}
use Rattle.mysql_executions.specs.Views.{types_by, types_of}
use Rattle.mysql_execution_writer.specs.Bulks.{row_bytes}
use Rattle.mysql_execution_writer.proofs.Loops.{flat_done, flat_of_map}
use Rattle.mysql_execution_writer.proofs.bulk.put_rows.Goals as goal

pub returns : goal.returns
returns c = flat_done (λ row. row_bytes (types_by (types_of c.args.own.now) c.args.s.now.types)
    row.items) c.args.rows.now c.loop-row.row-index c.loop-row.out.items (c.args.out.now.items ++
    flat_map (λ row. row_bytes (types_by (types_of c.args.own.now) c.args.s.now.types) row.items)
    c.args.rows.now) c.loop-row.invariant c.loop-row-test.false ∙
    ap (λ (l : List ℕ). c.args.out.now.items ++
    l) (flat_of_map (row_bytes (types_by (types_of c.args.own.now) c.args.s.now.types))
    (λ row. row.items) c.args.rows.now)
