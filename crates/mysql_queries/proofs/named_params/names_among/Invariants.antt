use Rattle.std.proofs.Common.{◌≡◌, ◌++◌, ℕ, drop, map}
use Rattle.std.specs.Cow.{cow_slice_items}
use Rattle.mysql_queries.specs.Parsed.{names_at}
use Rattle.mysql_queries.specs.Queries.{InOrder}
use Rattle.mysql_queries.proofs.named_params.names_among.Given as goal

abbrev pub invariant-loop-place : goal.invariant-loop-place
invariant-loop-place l = record {
  order : (at : ℕ) × InOrder l.query at (drop l.place-index l.places);
  listed : names_at l.query l.places ≡ map cow_slice_items l.names.items ++
      names_at l.query (drop l.place-index l.places);
}
