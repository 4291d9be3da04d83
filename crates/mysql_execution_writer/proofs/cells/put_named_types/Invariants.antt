use Rattle.std.proofs.Common.{◌≡◌, ◌++◌, true, take}
use Rattle.std.specs.List.{flat_map}
use Rattle.mysql_execution_writer.specs.Cells.{type_bytes}
use Rattle.mysql_execution_writer.proofs.cells.put_named_types.Given as goal

abbrev pub invariant-loop-kind : goal.invariant-loop-kind
invariant-loop-kind l = l.out.items ≡ l.initial.out.items ++ flat_map (type_bytes true) (take l.kind-index l.types)
