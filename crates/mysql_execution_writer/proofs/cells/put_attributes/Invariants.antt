use Rattle.std.proofs.Common.{◌≡◌, ◌++◌, [], take}
use Rattle.std.specs.Prelude.{unwrap_or}
use Rattle.std.specs.List.{flat_map}
use Rattle.mysql_execution_writer.specs.Cells.{attribute_cell}
use Rattle.mysql_execution_writer.proofs.cells.put_attributes.Given as goal

abbrev pub invariant-loop-attribute : goal.invariant-loop-attribute
invariant-loop-attribute l = l.out.items ≡ l.initial.out.items ++
    flat_map (λ a. unwrap_or (attribute_cell a) []) (take l.attribute-index l.attributes)
