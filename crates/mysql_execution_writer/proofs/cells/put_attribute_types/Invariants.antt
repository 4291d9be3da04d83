use Rattle.std.proofs.Common.{◌≡◌, ◌++◌, take}
use Rattle.std.specs.List.{flat_map}
use Rattle.mysql_execution_writer.specs.Cells.{type_bytes}
use Rattle.mysql_execution_writer.proofs.cells.put_attribute_types.Given as goal

abbrev pub invariant-loop-attribute : goal.invariant-loop-attribute
invariant-loop-attribute l = l.out.items ≡ l.initial.out.items ++
    flat_map (λ a. type_bytes l.named a.bound_type) (take l.attribute-index l.attributes)
