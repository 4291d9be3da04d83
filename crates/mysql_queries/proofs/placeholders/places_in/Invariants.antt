use Rattle.std.proofs.Common.{length, ◌-◌, ◌≤◌}
use Rattle.mysql_queries.specs.Sql.{read_in}
use Rattle.mysql_queries.proofs.PlaceLists.{Come}
use Rattle.mysql_queries.proofs.placeholders.places_in.Given as goal

abbrev pub invariant-loop-at : goal.invariant-loop-at
invariant-loop-at l = record {
  in_range : l.at ≤ length l.query;
  come : Come (read_in l.mode l.query) l.at l.so_far l.found.items;
}

abbrev pub decreases-loop-at : goal.decreases-loop-at
decreases-loop-at l = length l.query - l.at
