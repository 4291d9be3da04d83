use Rattle.std.proofs.Common.{◌-◌, ◌<◌, ◌≤◌, length}
use Rattle.mysql_bulk_builder.specs.Seen.{AreSeen}
use Rattle.mysql_bulk_builder.specs.TypedRequests.{view_parts}
use Rattle.mysql_bulk_builder.specs.RowLists.{rows_in}
use Rattle.mysql_bulk_builder.proofs.LongestPart.{CutSoFar}
use Rattle.mysql_bulk_builder.proofs.search.bulk_cut.Given as goal

-- the parts so far are tight and end at the next start
abbrev pub invariant-loop-start : goal.invariant-loop-start
invariant-loop-start l = record {
  seen : l.start < length l.rows → AreSeen l.columns (rows_in l.rows) l.start l.seen.items;
  within : l.start ≤ length l.rows;
  cut : CutSoFar l.room l.columns (rows_in l.rows) l.start (view_parts l.cut.items);
}

abbrev pub decreases-loop-start : goal.decreases-loop-start
decreases-loop-start l = length l.rows - l.start
