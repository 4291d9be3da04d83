use Rattle.std.proofs.Common.{◌≡◌, ◌≤◌, ◌++◌, length, drop}
use Rattle.mysql_queries.specs.Queries.{InOrder}
use Rattle.mysql_queries.proofs.QueryWritten.{marked}
use Rattle.mysql_queries.proofs.named_params.with_marks.Given as goal

abbrev pub invariant-loop-place : goal.invariant-loop-place
invariant-loop-place l = record {
  order : InOrder l.query l.at (drop l.place-index l.places);
  in_range : l.at ≤ length l.query;
  written : marked l.query 0 l.places ≡ l.parsed.items ++ marked l.query l.at (drop l.place-index l.places);
}
