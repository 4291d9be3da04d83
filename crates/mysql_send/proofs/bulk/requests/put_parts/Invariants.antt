use Rattle.std.proofs.Common.{◌≡◌, ◌+◌, ◌++◌, length, take, drop}
use Rattle.std.specs.Prelude.{sum_by}
use Rattle.mysql_wire.specs.Stream.{framings}
use Rattle.mysql_wire.specs.Stream.Numbering.{EachFromZero}
use Rattle.mysql_bulk_builder.specs.RowLists.{row_in, rows_in}
use Rattle.mysql_bulk_builder.specs.TypedRequests.{view_parts}
use Rattle.mysql_bulk_builder.specs.ValueTypes.{first_values}
use Rattle.mysql_send.specs.BulkSets.{requests_from}
use Rattle.mysql_send.proofs.bulk.requests.put_parts.Given as goal

-- the parts that are left start at the next row, and go on from what stands
abbrev pub invariant-parts : goal.invariant-parts
invariant-parts l = record {
  firsts : row_in l.firsts.items ≡ first_values l.columns (take l.start (rows_in l.rows));
  left : l.start + sum_by (λ part. part.count) (view_parts (drop l.part-index l.cut)) ≡ length l.rows;
  sent : l.out.items ++ framings
      (requests_from l.id l.columns (rows_in l.rows) l.start (view_parts (drop l.part-index l.cut)))
      EachFromZero
      ≡ l.initial.out.items ++ framings
      (requests_from l.id l.columns (rows_in l.rows) 0 (view_parts l.cut)) EachFromZero;
  kept : take (length l.initial.out.items) l.out.items ≡ l.initial.out.items;
}
