use Rattle.std.proofs.Common.{◌≡◌, ◌++◌, take}
use Rattle.std.specs.List.{flat_map}
use Rattle.mysql_bulk_builder.specs.Bulk.{param_type_bytes}
use Rattle.mysql_bulk_builder.proofs.request.put_types.Given as goal

abbrev pub invariant-loop-one : goal.invariant-loop-one
invariant-loop-one l = l.buf.items ≡ l.initial.buf.items ++ flat_map param_type_bytes (take l.one-index l.all)
