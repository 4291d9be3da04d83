use Rattle.std.proofs.Common.{◌≡◌, ◌++◌, drop, map}
use Rattle.std.specs.Cow.{cow_slice_items}
use Rattle.mysql_queries.proofs.named_params.copied_names.Given as goal

abbrev pub invariant-loop-name : goal.invariant-loop-name
invariant-loop-name l = map cow_slice_items l.names ≡ map cow_slice_items l.copies.items ++
    map cow_slice_items (drop l.name-index l.names)
