use Rattle.std.proofs.Common.{◌≡◌, drop, map}
use Rattle.mysql_bulk_builder.specs.Bulk.{have_length}
use Rattle.mysql_bulk_builder.proofs.flat_values.arity_of.Given as goal

abbrev pub invariant-loop-row : goal.invariant-loop-row
invariant-loop-row l = have_length l.arity (map (λ row. row.items) (drop l.row-index l.rows)) ≡
    have_length l.arity (map (λ row. row.items) l.rows)
